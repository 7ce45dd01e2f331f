use Rattle.std.proofs.Common.{◌*◌, ◌+◌, List}
use Rattle.bittle_bits.specs.Rows.{IsCombinedBelow}
use Rattle.bittle_bits.proofs.internal.row.combine_by_fours.Given as goal

abbrev pub invariant-loop-four : goal.invariant-loop-four
invariant-loop-four g l = IsCombinedBelow g.O.Operation.decide g.T.Shape.big l.initial.elements
    l.others l.elements (l.four * 4)

abbrev pub invariant-loop-rest : goal.invariant-loop-rest
invariant-loop-rest g l = (xs : List g.row.T.Denot) →
    IsCombinedBelow g.O.Operation.decide g.T.Shape.big xs l.others l.initial.elements l.done →
    IsCombinedBelow g.O.Operation.decide g.T.Shape.big xs l.others l.elements (l.done + l.rest)
