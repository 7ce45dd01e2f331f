use Rattle.std.proofs.Common.{◌≡◌, ◌+◌, ◌-◌, ◌≤◌}
use Rattle.bittle.specs.Values.{set_in}
use Rattle.bittle_ext.specs.Numbers.{with_copied}
use Rattle.bittle_ext.proofs.copies.copy_up.Given as goal

abbrev pub invariant-loop-rest : goal.invariant-loop-rest
invariant-loop-rest g l = let s = set_in g.A.Shape g.E.Endian l.initial.set in record {
  most : l.rest ≤ l.count;
  copied : set_in g.A.Shape g.E.Endian l.set
      ≡ with_copied s (l.at + l.rest) (l.count - l.rest) s (l.from + l.rest);
  stays : g.A.Shape.loan l.initial.set ≡ g.A.Shape.loan l.set;
}

abbrev pub decreases-loop-rest : goal.decreases-loop-rest
decreases-loop-rest g l = l.rest
