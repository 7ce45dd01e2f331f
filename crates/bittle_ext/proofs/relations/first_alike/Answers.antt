use Rattle.bittle.specs.Values.{set_in}
use Rattle.bittle_ext.proofs.RelationFacts.{first_viewed}
use Rattle.bittle_ext.proofs.relations.first_alike.Goals as goal

pub returns-then-MAY_PASS_OVER : goal.returns-then-MAY_PASS_OVER
returns-then-MAY_PASS_OVER g c =
    first_viewed g.O.Operation.decide (set_in g.A.Shape g.E.Endian c.args.left.now)
    (set_in g.B.Shape g.E.Endian c.args.right.now) c.args.end c.end_in.result
    (rw c.of_first-view.ensures.set at c.end_in.ensures)
