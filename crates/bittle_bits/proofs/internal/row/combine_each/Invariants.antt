use Rattle.bittle_bits.specs.Rows.{IsCombinedBelow}
use Rattle.bittle_bits.proofs.internal.row.combine_each.Given as goal

abbrev pub invariant-loop-at : goal.invariant-loop-at
invariant-loop-at g l = IsCombinedBelow g.O.Operation.decide g.T.Shape.big l.initial.elements
    l.others l.elements l.at
