-- Which members a set has between two numbers.
use Rattle.std.specs.Prelude.{◌≡◌, ℕ, ◌-◌, ◌<◌, ◌≤◌, Bool, ◌&&◌, true, false, List, length, min}
use Rattle.std.specs.Prelude.{slice_index}
use Rattle.bittle.specs.PlainSet.{PlainSet, ascending, is_in_span, members_below}
use Rattle.bittle.specs.Walk.{ones_or_zeros}

-- n is the capacity, and no number from the capacity on is a member
pub record EndsAt (s : PlainSet) (n : ℕ) : Type 0 where
  pub capacity : n ≡ s.capacity
  pub past : (i : ℕ) → s.capacity ≤ i → s.has i ≡ false

-- start..end is the part of from..to that is below c
pub record IsPartBelow (c from to start end : ℕ) : Type 0 where
  pub end_is : end ≡ min to c
  pub start_is : start ≡ min from end
  pub ordered : start ≤ end
  pub inside : end ≤ c

-- some number of from..to is a member
abbrev pub HasSomeIn : PlainSet → ℕ → ℕ → Type 0
HasSomeIn s from to = (k : ℕ) × (from ≤ k) × (k < to) × (s.has k ≡ true)

-- each number of from..to is a member
abbrev pub HasAllIn : PlainSet → ℕ → ℕ → Type 0
HasAllIn s from to = (k : ℕ) → from ≤ k → k < to → s.has k ≡ true

-- some number of from..to is no member
abbrev pub LacksSomeIn : PlainSet → ℕ → ℕ → Type 0
LacksSomeIn s from to = (k : ℕ) × (from ≤ k) × (k < to) × (s.has k ≡ false)

-- the set of the members in from..to
abbrev pub members_within : PlainSet → ℕ → ℕ → PlainSet
members_within s from to =
    record { capacity = s.capacity; has = λ k. is_in_span from to k && s.has k }

-- the set of the numbers in from..to that are members of s (if the flag is true) or of the
-- complement of s (if it is false)
abbrev pub kind_within : Bool → PlainSet → ℕ → ℕ → PlainSet
kind_within ones s from to = record {
  capacity = s.capacity;
  has = λ k. is_in_span from to k && (ones_or_zeros ones s).has k;
}

-- each number of the list is in from..to, and the list is at most as long as the range
abbrev pub AreWithin : ℕ → ℕ → List ℕ → Type 0
AreWithin from to xs = (length xs ≤ to - from)
    × ((k : ℕ) → k < length xs → (from ≤ slice_index xs k) × (slice_index xs k < to))

-- the list has the members in from..to, increasing; its length is the number of members below `to`,
-- minus the number below `from`
pub record ListsWithin (s : PlainSet) (from to : ℕ) (xs : List ℕ) : Type 0 where
  pub items : xs ≡ ascending (members_within s from to)
  pub count : length xs ≡ members_below s to - members_below s from
  pub between : AreWithin from to xs
