use Rattle.bittle.specs.Values.{set_in}
use Rattle.bittle_ext.specs.Edges.{edges}
use Rattle.bittle_ext.proofs.ViewFacts.{read_twice}
use Rattle.bittle_ext.proofs.views.edges.Edges.of.Goals as goal

pub returns-clause-set : goal.returns-clause-set
returns-clause-set g c = read_twice g.E.Endian.mirrored g.B.Shape.width
    (edges g.K.Kind.ONES (set_in g.B.Shape g.E.Endian c.args.set.now))
    g.met.B.ReadWords.width_positive
