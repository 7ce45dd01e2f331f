use Rattle.std.proofs.Common.{◌-◌, ◌≤◌}
use Rattle.bittle.specs.Decided.{NoneDecidedBelow}
use Rattle.bittle.specs.Orders.{read_in}
use Rattle.bittle_ext.specs.SetRelations.{first_and}
use Rattle.bittle_ext.proofs.relations.first_below.Given as goal

abbrev pub invariant-loop-ours : goal.invariant-loop-ours
invariant-loop-ours g l =
    let ours = read_in g.E.Endian.mirrored g.A.Shape.width (g.A.Shape.big l.left) in
    let theirs = read_in g.F.Endian.mirrored g.B.Shape.width (g.B.Shape.big l.right) in
    record {
      within : l.from ≤ l.end;
      before : NoneDecidedBelow (first_and g.K.Kind.ONES) ours theirs l.from;
    }

abbrev pub decreases-loop-ours : goal.decreases-loop-ours
decreases-loop-ours g l = l.end - l.from
