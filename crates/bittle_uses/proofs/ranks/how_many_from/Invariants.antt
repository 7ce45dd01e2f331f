use Rattle.std.proofs.Common.{◌≡◌, ◌+◌, ◌≤◌, nat_le, length}
use Rattle.std.specs.Prelude.{count_by}
use Rattle.bittle_uses.proofs.ranks.how_many_from.Given as goal

abbrev pub invariant-loop-member : goal.invariant-loop-member
invariant-loop-member g l =
    record {
      counted : l.count + count_by (λ i. nat_le l.bound i) l.walk.remaining
          ≡ count_by (λ i. nat_le l.bound i) l.initial.walk.remaining;
      few : l.count + length l.walk.remaining ≤ length l.initial.walk.remaining;
    }

abbrev pub decreases-loop-member : goal.decreases-loop-member
decreases-loop-member g l = length l.walk.remaining
