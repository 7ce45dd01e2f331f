-- Plain sets of numbers below a capacity: what a value stands for, whatever its words are.
use Rattle.std.specs.Prelude.{◌≡◌, ℕ, zero, suc, ◌+◌, ◌-◌, ◌%◌, ◌<◌, ◌≤◌, Bool, true, false, cond}
use Rattle.std.specs.Prelude.{◌&&◌, ◌||◌, not, nat_lt, nat_le, ◌==◌, List, [], ◌∷◌}

-- a set of numbers below a capacity, given by a test of each number
pub record PlainSet : Type 0 where
  pub capacity : ℕ
  pub has : ℕ → Bool

-- whether an index is a member; the index wraps at the capacity, and with capacity 0 nothing is a
-- member
unfoldable pub contains : PlainSet → ℕ → Bool
contains s i = nat_lt 0 s.capacity && s.has (i % s.capacity)

-- whether the number k is a member after the index i is added; i wraps at the capacity, and with
-- capacity 0 nothing is added
unfoldable pub has_with : PlainSet → ℕ → ℕ → Bool
has_with s i k = (nat_lt 0 s.capacity && (k == i % s.capacity)) || s.has k

-- the set with the index added; the index wraps at the capacity
abbrev pub with_index : PlainSet → ℕ → PlainSet
with_index s i = record { capacity = s.capacity; has = has_with s i }

-- whether a number lies in the span from..end
abbrev pub is_in_span : ℕ → ℕ → ℕ → Bool
is_in_span from end k = nat_le from k && nat_lt k end

-- the set of capacity c whose members are the numbers of from..end; this span ends at or before c
abbrev pub span_set : ℕ → ℕ → ℕ → PlainSet
span_set c from end = record { capacity = c; has = is_in_span from end }

-- whether the number k is a member after `change` was applied to the membership of each number of a
-- span; other numbers keep theirs
unfoldable pub has_changed : (Bool → Bool) → PlainSet → ℕ → ℕ → ℕ → Bool
has_changed change s from end k = cond (is_in_span from end k) (change (s.has k)) (s.has k)

-- the set after `change` was applied to the membership of each number of a span; the span ends at
-- or before the capacity
abbrev pub with_span_changed : (Bool → Bool) → PlainSet → ℕ → ℕ → PlainSet
with_span_changed change s from end =
    record { capacity = s.capacity; has = has_changed change s from end }

-- the set with each index of from..end added; the span ends at or before the capacity
abbrev pub with_span : PlainSet → ℕ → ℕ → PlainSet
with_span s from end = with_span_changed (λ _. true) s from end

-- the set with each index of from..end removed
abbrev pub without_span : PlainSet → ℕ → ℕ → PlainSet
without_span s from end = with_span_changed (λ _. false) s from end

-- the set with each index of from..end flipped: an index of the span is a member exactly if it was
-- not one
abbrev pub with_span_toggled : PlainSet → ℕ → ℕ → PlainSet
with_span_toggled s from end = with_span_changed not s from end

-- whether the number k is a member after the index i is removed; i wraps at the capacity
unfoldable pub has_without : PlainSet → ℕ → ℕ → Bool
has_without s i k = not (nat_lt 0 s.capacity && (k == i % s.capacity)) && s.has k

-- the set with the index removed; the index wraps at the capacity
abbrev pub without_index : PlainSet → ℕ → PlainSet
without_index s i = record { capacity = s.capacity; has = has_without s i }

-- the set of capacity c that has no members
abbrev pub empty_set : ℕ → PlainSet
empty_set c = record { capacity = c; has = λ _. false }

-- the set of capacity c that has each number below c as a member
abbrev pub full_set : ℕ → PlainSet
full_set c = record { capacity = c; has = λ k. nat_lt k c }

-- the set of capacity c that has each number of i..c as a member
abbrev pub full_set_from : ℕ → ℕ → PlainSet
full_set_from c i = record { capacity = c; has = λ k. nat_lt k c && not (nat_lt k i) }

-- the set that has the capacity of s and no members
abbrev pub without_members : PlainSet → PlainSet
without_members s = empty_set s.capacity

-- whether a number is below the capacity and not a member
unfoldable pub lacks : PlainSet → ℕ → Bool
lacks s k = nat_lt k s.capacity && not (s.has k)

-- the set of the numbers below the capacity that are not members
abbrev pub complement : PlainSet → PlainSet
complement s = record { capacity = s.capacity; has = lacks s }

-- how many of the numbers below c pass the test
unfoldable pub count_below : ℕ → (ℕ → Bool) → ℕ
count_below zero p = 0
count_below (suc c) p = count_below c p + cond (p c) 1 0

-- how many members there are
abbrev pub size : PlainSet → ℕ
size s = count_below s.capacity s.has

-- how many members lie below a number
abbrev pub members_below : PlainSet → ℕ → ℕ
members_below s n = count_below n s.has

-- those of the n numbers from `from` on that pass the test, in increasing order
unfoldable pub ascending_from : (ℕ → Bool) → ℕ → ℕ → List ℕ
ascending_from p from zero = []
ascending_from p from (suc n) = cond (p from) (from ∷ ascending_from p (suc from) n)
    (ascending_from p (suc from) n)

-- the members in increasing order
abbrev pub ascending : PlainSet → List ℕ
ascending s = ascending_from s.has 0 s.capacity

-- r is the least member, or the capacity if there is none
pub record IsLeastMember (s : PlainSet) (r : ℕ) : Type 0 where
  pub within : r ≤ s.capacity
  pub none_below : (k : ℕ) → k < r → s.has k ≡ false
  pub is_member : r < s.capacity → s.has r ≡ true

-- r is how far the greatest member lies below the last number, capacity - 1; if there is no member,
-- r is the capacity
pub record IsGreatestMember (s : PlainSet) (r : ℕ) : Type 0 where
  pub within : r ≤ s.capacity
  pub none_above : (k : ℕ) → k < r → s.has (s.capacity - 1 - k) ≡ false
  pub is_member : r < s.capacity → s.has (s.capacity - 1 - r) ≡ true
