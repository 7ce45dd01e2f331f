use Rattle.std.proofs.Common.{◌-◌, cond}
use Rattle.bittle_bits.specs.Searches.{PassesOver}
use Rattle.bittle_bits.specs.Values.{row_of}
use Rattle.bittle_bits.specs.Walk.{ones_or_zeros}
use Rattle.bittle_bits.proofs.internal.row.pass_over_elements.Given as goal

abbrev pub invariant-loop-low : goal.invariant-loop-low
invariant-loop-low g l = PassesOver g.N.End.FRONT g.T.Shape.width
    (ones_or_zeros g.K.Kind.ONES (row_of g.T.Shape l.elements)) l.fn.low l.fn.high l.at

abbrev pub decreases-loop-low : goal.decreases-loop-low
decreases-loop-low g l = cond g.N.End.FRONT (l.fn.high - l.at) (l.at - l.fn.low)
