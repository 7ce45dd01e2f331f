-- Ranges of a set as numbers, and ranges that are copied.
use Rattle.std.specs.Prelude.{◌≡◌, ℕ, zero, suc, ◌+◌, ◌-◌, ◌^◌, ◌<◌, Bool, cond, ◌==◌}
use Rattle.std.specs.Int.{bit_at}
use Rattle.bittle.specs.PlainSet.{PlainSet, is_in_span}

-- the number of n bits in which bit i is set exactly if first + i is a member
unfoldable pub number_in : PlainSet → ℕ → ℕ → ℕ
number_in s first zero = 0
number_in s first (suc n) = number_in s first n + cond (s.has (first + n)) (2 ^ n) 0

-- for each i below n, bit i of the number d is set exactly if first + i is a member
abbrev pub HasBitsOf : PlainSet → ℕ → ℕ → ℕ → Type 0
HasBitsOf s first n d = (i : ℕ) → i < n → (bit_at d i == 1) ≡ s.has (first + i)

-- whether k is a member of s after a copy from t: for each i below n, at + i becomes a member
-- exactly if from + i is a member of t, and no other number changes
unfoldable pub has_copied : PlainSet → ℕ → ℕ → PlainSet → ℕ → ℕ → Bool
has_copied s at n t from k = cond (is_in_span at (at + n) k) (t.has (k - at + from)) (s.has k)

-- the set s after a copy from t: for each i below n, at + i becomes a member exactly if from + i is
-- a member of t, and no other number changes
abbrev pub with_copied : PlainSet → ℕ → ℕ → PlainSet → ℕ → PlainSet
with_copied s at n t from = record { capacity = s.capacity; has = has_copied s at n t from }
