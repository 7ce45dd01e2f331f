use Rattle.bittle_bits.proofs.RowPasses.{passes_none}
use Rattle.bittle_bits.proofs.internal.row.pass_over_elements.Goals as goal

pub loop-low-init : goal.loop-low-init
loop-low-init g c = rw c.words_at_end-at.ensures
    (passes_none g.N.End.FRONT _ _ c.args.low c.args.high c.requires.ordered)
