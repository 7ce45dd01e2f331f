use Rattle.std.proofs.Common.{◌≡◌, ◌≤◌, ◌*◌, length}
use Rattle.std.specs.Prelude.{sum}
use Rattle.bittle_uses.proofs.totals.sum.Given as goal

abbrev pub invariant-loop-index : goal.invariant-loop-index
invariant-loop-index l =
    record { is_sum : l.total ≡ sum l.yielded; small : l.total ≤ length l.yielded * 64 }
