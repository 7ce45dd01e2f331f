use Rattle.std.proofs.Common.{◌≡◌, ◌+◌, ◌≤◌, ◌*◌, length}
use Rattle.std.specs.Prelude.{sum}
use Rattle.bittle_uses.proofs.totals.sum_from_greatest.Given as goal

abbrev pub invariant-loop-index : goal.invariant-loop-index
invariant-loop-index l = record {
  is_sum : l.total + sum l.walk.remaining ≡ sum l.initial.walk.remaining;
  small : l.total + length l.walk.remaining * 4294967296 ≤ 32 * 4294967296;
}

abbrev pub decreases-loop-index : goal.decreases-loop-index
decreases-loop-index l = length l.walk.remaining
