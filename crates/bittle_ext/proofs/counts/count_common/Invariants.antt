use Rattle.std.proofs.Common.{◌≡◌, ◌-◌, ◌≤◌}
use Rattle.bittle.specs.Orders.{read_in}
use Rattle.bittle.specs.PlainSet.{members_below}
use Rattle.bittle_ext.specs.Combined.{both_of}
use Rattle.bittle_ext.proofs.counts.count_common.Given as goal

abbrev pub invariant-loop-index : goal.invariant-loop-index
invariant-loop-index g l =
    let ours = read_in g.E.Endian.mirrored g.A.Shape.width (g.A.Shape.big l.left) in
    let theirs = read_in g.F.Endian.mirrored g.B.Shape.width (g.B.Shape.big l.right) in
    record {
      within : l.from ≤ l.common;
      counted : l.count ≡ members_below (both_of ours theirs) l.from;
    }

abbrev pub decreases-loop-index : goal.decreases-loop-index
decreases-loop-index g l = l.common - l.from
