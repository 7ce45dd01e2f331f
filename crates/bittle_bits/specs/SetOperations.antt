-- The operations on two sets.
use Rattle.std.specs.Prelude.{ℕ, Bool, true, false, cond, not, ◌&&◌, ◌||◌, nat_lt}
use Rattle.bittle_bits.specs.PlainSet.{PlainSet}

-- Whether a number is a member after an operation with another set. For a number below both
-- capacities, the two memberships decide. Any other number stays as it was.
unfoldable pub combination_has : (Bool → Bool → Bool) → PlainSet → PlainSet → ℕ → Bool
combination_has decide s t k = cond (nat_lt k s.capacity && nat_lt k t.capacity)
    (decide (s.has k) (t.has k)) (s.has k)

-- the result of an operation on two sets: it has the capacity of the first set; `decide` tells from
-- the membership in each set whether a number below both capacities is a member
abbrev pub combination_of : (Bool → Bool → Bool) → PlainSet → PlainSet → PlainSet
combination_of decide s t = record { capacity = s.capacity; has = combination_has decide s t }

-- whether a number is in the first set and not in the second; a and b tell in which sets it is
abbrev pub first_alone : Bool → Bool → Bool
first_alone a b = a && not b

-- whether a number is in just one of the two sets
abbrev pub just_one : Bool → Bool → Bool
just_one true b = not b
just_one false b = b

-- the numbers below both capacities that are members of at least one of the sets; from the lesser
-- capacity on, the members of the first set
abbrev pub union_of : PlainSet → PlainSet → PlainSet
union_of s t = combination_of ◌||◌ s t

-- the numbers below both capacities that are members of both the first set and the second; from the
-- lesser capacity on, the members of the first set
abbrev pub conjunction_of : PlainSet → PlainSet → PlainSet
conjunction_of s t = combination_of ◌&&◌ s t

-- the members of the first set that are not members of the second
abbrev pub difference_of : PlainSet → PlainSet → PlainSet
difference_of s t = combination_of first_alone s t

-- the numbers below both capacities that are members of just one of the sets; from the lesser
-- capacity on, the members of the first set
abbrev pub symmetric_difference_of : PlainSet → PlainSet → PlainSet
symmetric_difference_of s t = combination_of just_one s t
