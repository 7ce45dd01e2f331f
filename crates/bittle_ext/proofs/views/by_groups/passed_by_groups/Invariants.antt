use Rattle.std.proofs.Common.{◌-◌, cond}
use Rattle.bittle.specs.Values.{set_in}
use Rattle.bittle_ext.specs.Combined.{both_of}
use Rattle.bittle_ext.specs.Groups.{MovesOver}
use Rattle.bittle_ext.proofs.views.by_groups.passed_by_groups.Given as goal

abbrev pub invariant-loop-on : goal.invariant-loop-on
invariant-loop-on g l = MovesOver g.N.End.FRONT 1 g.A.Shape.width
    (both_of (set_in g.A.Shape g.E.Endian l.left) (set_in g.B.Shape g.F.Endian l.right))
    (cond g.N.End.FRONT l.fn.low l.fn.high) l.at

abbrev pub decreases-loop-on : goal.decreases-loop-on
decreases-loop-on g l = cond g.N.End.FRONT (l.fn.high - l.at) (l.at - l.fn.low)
