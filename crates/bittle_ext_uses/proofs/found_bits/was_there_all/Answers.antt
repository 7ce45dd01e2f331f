use Rattle.std.proofs.Common.{arith}
use Rattle.bittle.specs.BitPatterns.{bit_set}
use Rattle.bittle_lemmas.proofs.TestedRanges.{exactly_if_each_set}
use Rattle.bittle_ext_uses.proofs.found_bits.was_there_all.Goals as goal

pub returns : goal.returns
returns c = exactly_if_each_set (bit_set 32 c.args.days) c.args.from c.args.to _ (omega arith)
    c.all_in_range.ensures.value
