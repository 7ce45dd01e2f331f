use Rattle.std.proofs.Common.{arith}
use Rattle.bittle.specs.BitPatterns.{bit_set}
use Rattle.bittle.specs.Rows.{row_set}
use Rattle.bittle_lemmas.proofs.SetSpans.{size_before_span}
use Rattle.bittle_ext_uses.proofs.field.Field.size.Goals as goal

pub returns-clause-at_most : goal.returns-clause-at_most
returns-clause-at_most c = omega (
  arith,
  c.count_ones.ensures.value,
  size_before_span (row_set 4 64 (bit_set 64) c.args.self.now.cells) 200 256 c.args.self.now.past
      (omega arith) (omega arith),
)
