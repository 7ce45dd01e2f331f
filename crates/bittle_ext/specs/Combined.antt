-- The result of an operation on two sets, which may differ in capacity.
use Rattle.std.specs.Prelude.{◌≡◌, ℕ, ◌+◌, ◌≤◌, max, Bool, ◌||◌, ◌&&◌}
use Rattle.bittle.specs.PlainSet.{PlainSet, size}
use Rattle.bittle.specs.SetOperations.{first_alone, just_one}
use Rattle.bittle_ext.specs.Views.{decided_until}

-- the set of the numbers for which `decide` returns true. `decide` is given whether the number is
-- in the first set, and whether it is in the second. The capacity is the greater of the two
abbrev pub decided_set : (Bool → Bool → Bool) → PlainSet → PlainSet → PlainSet
decided_set decide s t = decided_until decide (max s.capacity t.capacity) s t

-- the numbers that are members of at least one of the two sets
abbrev pub either_of : PlainSet → PlainSet → PlainSet
either_of s t = decided_set ◌||◌ s t

-- the numbers that are members of both the first set and the second
abbrev pub both_of : PlainSet → PlainSet → PlainSet
both_of s t = decided_set ◌&&◌ s t

-- the members of the first set that are not in the second
abbrev pub first_only_of : PlainSet → PlainSet → PlainSet
first_only_of s t = decided_set first_alone s t

-- the numbers that are members of exactly one of the two sets
abbrev pub just_one_of : PlainSet → PlainSet → PlainSet
just_one_of s t = decided_set just_one s t

-- n numbers are members of both sets; the first set has a members, and the second has b
pub record CountsBoth (s t : PlainSet) (a b n : ℕ) : Type 0 where
  pub both : n ≡ size (both_of s t)
  pub first_only : size (first_only_of s t) + n ≡ a
  pub few : n ≤ b
  pub just_one : size (just_one_of s t) + n + n ≡ a + b
  pub most : size (just_one_of s t) ≤ max s.capacity t.capacity
