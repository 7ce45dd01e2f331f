use Rattle.std.proofs.Common.{◌-◌, ◌<◌, ◌≤◌, ◌^◌}
use Rattle.bittle.specs.Values.{set_in}
use Rattle.bittle_ext.specs.Numbers.{HasBitsOf}
use Rattle.bittle_ext.proofs.copies.number_from.Given as goal

abbrev pub invariant-loop-done : goal.invariant-loop-done
invariant-loop-done g l = record {
  most : l.done ≤ l.end;
  below : l.number < 2 ^ l.done;
  bits : HasBitsOf (set_in g.B.Shape g.E.Endian l.set) l.first l.done l.number;
}

abbrev pub decreases-loop-done : goal.decreases-loop-done
decreases-loop-done g l = l.end - l.done
