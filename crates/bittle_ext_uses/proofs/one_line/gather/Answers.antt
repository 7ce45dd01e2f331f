use Rattle.std.proofs.Common.{◌||◌, sym, ap, ◌∙◌}
use Rattle.bittle.specs.BitPatterns.{bit_set}
use Rattle.bittle.specs.PlainSet.{contains}
use Rattle.bittle.proofs.CallerSets.{contains_within}
use Rattle.bittle_ext_uses.proofs.one_line.gather.Goals as goal

pub returns : goal.returns
returns c k below =
    c.union_with.ensures.combined.each k below
    ∙ ap (λ b. contains (bit_set 64 c.args.row.now) k || b)
    (sym (contains_within (bit_set 64 c.args.other) k below))
