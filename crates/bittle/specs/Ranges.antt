-- A set to which each index of a range is added.
use Rattle.std.specs.Prelude.{ℕ, zero, suc, ◌+◌, ◌%◌, Bool, false, ◌&&◌, ◌||◌, ◌==◌, nat_lt, nat_le}
use Rattle.bittle_bits.specs.PlainSet.{PlainSet, empty_set, with_index}

-- whether some number below n passes the test
unfoldable pub some_below : ℕ → (ℕ → Bool) → Bool
some_below zero p = false
some_below (suc n) p = some_below n p || p n

-- whether k is a member of s, or some index of the range `from..end` wraps to k; with capacity 0 no
-- index wraps to a number
unfoldable pub has_with_wrapped_range : PlainSet → ℕ → ℕ → ℕ → Bool
has_with_wrapped_range s from end k =
    (nat_lt 0 s.capacity && some_below end (λ i. nat_le from i && (k == i % s.capacity))) || s.has k

-- the set s with each index of the range `from..end` added; an index at or past the capacity wraps,
-- and a range with `end <= from` adds nothing
abbrev pub with_wrapped_range : PlainSet → ℕ → ℕ → PlainSet
with_wrapped_range s from end =
    record { capacity = s.capacity; has = has_with_wrapped_range s from end }

-- the set that the list `a, b, 2..=3, 5..7, 14..` names, if its capacity is `capacity`
abbrev pub listed_set : ℕ → ℕ → ℕ → PlainSet
listed_set capacity a b =
    with_wrapped_range (with_wrapped_range (with_wrapped_range
    (with_index (with_index (empty_set capacity) a) b) 2 (3 + 1)) 5 7) 14 capacity
