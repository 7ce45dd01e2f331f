use Rattle.std.proofs.Common.{◌≡◌, ◌-◌, ◌≤◌}
use Rattle.bittle.specs.Values.{set_in}
use Rattle.bittle_ext.specs.Numbers.{with_copied}
use Rattle.bittle_ext.proofs.copies.copy_range.Given as goal

abbrev pub invariant-loop-done : goal.invariant-loop-done
invariant-loop-done g l = record {
  most : l.done ≤ l.count;
  copied : set_in g.A.Shape g.E.Endian l.set ≡ with_copied
      (set_in g.A.Shape g.E.Endian l.initial.set) l.at l.done
      (set_in g.B.Shape g.F.Endian l.other) l.from;
  stays : g.A.Shape.loan l.initial.set ≡ g.A.Shape.loan l.set;
}

abbrev pub decreases-loop-done : goal.decreases-loop-done
decreases-loop-done g l = l.count - l.done
