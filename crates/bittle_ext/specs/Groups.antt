-- Steps past groups of words that have no member.
use Rattle.std.specs.Prelude.{ℕ, ◌*◌, ◌≤◌, Bool, true, false, nat_lt}
use Rattle.bittle.specs.PlainSet.{PlainSet}
use Rattle.bittle.specs.Searches.{NoneIn}

-- one end of a range of groups moved from group `at` to group `on`, past groups without a member.
-- The end is the front if the flag is true, else the back. A group has `each` words of w numbers
abbrev pub MovesOver : Bool → ℕ → ℕ → PlainSet → ℕ → ℕ → Type 0
MovesOver true each w s at on = (at ≤ on) × NoneIn s (at * each * w) (on * each * w)
MovesOver false each w s at on = (on ≤ at) × NoneIn s (on * each * w) (at * each * w)

-- whether one end of low..high, after it moved to `at`, has not reached the other end. The end that
-- moved is the front if the flag is true, else the back
abbrev pub is_inside : Bool → ℕ → ℕ → ℕ → Bool
is_inside true low high at = nat_lt at high
is_inside false low high at = nat_lt low at
