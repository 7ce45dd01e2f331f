use Rattle.bittle.specs.Values.{ShapeFits}
use Rattle.bittle_ext_uses.proofs.any_changes.add_each.Given as goal

abbrev pub invariant-loop-index : goal.invariant-loop-index
invariant-loop-index g l = ShapeFits g.B.Shape l.set
