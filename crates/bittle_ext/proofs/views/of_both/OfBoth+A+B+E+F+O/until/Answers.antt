use Rattle.bittle.specs.Values.{set_in}
use Rattle.bittle_ext.specs.Views.{decided_until}
use Rattle.bittle_ext.proofs.ViewFacts.{read_twice}
use Rattle.bittle_ext.proofs.views.of_both.OfBoth+A+B+E+F+O.until.Goals as goal

pub returns-clause-set : goal.returns-clause-set
returns-clause-set g c = read_twice g.E.Endian.mirrored g.A.Shape.width
    (decided_until g.O.Operation.decide c.args.end
    (set_in g.A.Shape g.E.Endian c.args.left.now) (set_in g.B.Shape g.F.Endian c.args.right.now))
    g.met.A.ReadWords.width_positive
