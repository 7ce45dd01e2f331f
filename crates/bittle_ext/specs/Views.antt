-- The members of views.
use Rattle.std.specs.Prelude.{◌≡◌, ℕ, ◌+◌, ◌-◌, ◌%◌, ◌<◌, ◌≤◌, Bool, true, false}
use Rattle.bittle.specs.Orders.{place}
use Rattle.bittle.specs.PlainSet.{PlainSet}

-- the set of the numbers for which `decide` returns true, with the capacity `end`. `decide` is
-- given whether the number is in the first set, and whether it is in the second
abbrev pub decided_until : (Bool → Bool → Bool) → ℕ → PlainSet → PlainSet → PlainSet
decided_until decide end s t =
    record { capacity = end; has = λ k. decide (s.has k) (t.has k) }

-- `decided_until` with the capacity of the first set
abbrev pub decided_of_first : (Bool → Bool → Bool) → PlainSet → PlainSet → PlainSet
decided_of_first decide s t = decided_until decide s.capacity s t

-- whether the place that the mirrored order gives to a number is a member of s. This definition is
-- no abbreviation, so that a proof search in a caller does not unfold the sets behind each view
unfoldable pub is_placed : ℕ → PlainSet → ℕ → Bool
is_placed w s k = s.has (place true w k)

-- whether the place of a number is a member of s. If the flag is true, the place is the one in the
-- mirrored order, else it is the number itself
abbrev pub has_placed : Bool → ℕ → PlainSet → ℕ → Bool
has_placed true w s = is_placed w s
has_placed false w s = s.has

-- the inverse of `read_in`: `read_in mirrored w` of the result is s
abbrev pub read_back : Bool → ℕ → PlainSet → PlainSet
read_back mirrored w s = record { capacity = s.capacity; has = has_placed mirrored w s }

-- `end` can be the capacity of the result of an operation on two sets: it is a whole number of
-- words and below `u32::MAX`, and the result has no member from `end` on. If the result has only
-- members of s, `end` is at most the capacity of s
pub record HoldsBoth (decide : Bool → Bool → Bool) (w : ℕ) (s t : PlainSet) (end : ℕ) : Type 0 where
  pub fits : end < 4294967295
  pub whole : end % w ≡ 0
  pub past : (i : ℕ) → end ≤ i → decide (s.has i) (t.has i) ≡ false
  pub first : ((b : Bool) → decide false b ≡ false) → end ≤ s.capacity

-- the least multiple of w that is n or more
abbrev pub rounded_up : ℕ → ℕ → ℕ
rounded_up n w = n + (w - n % w) % w
