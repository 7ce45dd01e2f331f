use Rattle.std.proofs.Common.{◌≡◌, ◌≤◌, ◌*◌, length}
use Rattle.std.specs.Prelude.{sum}
use Rattle.bittle_uses.proofs.sums.sum_of_members.Given as goal

abbrev pub invariant-loop-member : goal.invariant-loop-member
invariant-loop-member g l =
    record { is_sum : l.total ≡ sum l.yielded; small : l.total ≤ length l.yielded * 4294967295 }
