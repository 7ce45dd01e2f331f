use Rattle.std.proofs.Common.{false}
use Rattle.bittle_bits.proofs.RowOperations.{one_more_combined}
use Rattle.bittle_bits.proofs.internal.row.combine_element.Goals as goal

pub returns-clause-one_more : goal.returns-clause-one_more
returns-clause-one_more g c xs ys also beside old = one_more_combined g.O.Operation.decide
    g.T.Shape.big xs ys c.args.elements.now c.args.at c.index-elements-at.result
    c.args.other.now c.assign_by_operation.new.self c.requires also beside
    (c.assign_by_operation.ensures.set false) old
