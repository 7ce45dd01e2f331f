-- The result of an operation on two sets of any capacities, cut off at the capacity of the first.
use Rattle.std.specs.Prelude.{◌≡◌, ℕ, ◌<◌, Bool, false, not, ◌&&◌, nat_lt, IsTrue, ◌↔◌}
use Rattle.bittle.specs.PlainSet.{PlainSet, contains}
use Rattle.bittle_ext.specs.Combined.{decided_set}

-- whether a number is below the capacity c and a member of t
unfoldable pub has_below : ℕ → PlainSet → ℕ → Bool
has_below c t k = nat_lt k c && t.has k

-- the members of a set that are below c, as a set of capacity c
abbrev pub members_to : ℕ → PlainSet → PlainSet
members_to c t = record { capacity = c; has = has_below c t }

-- some number below the capacity of the first set is a member of just one of the two sets
abbrev pub Differ : PlainSet → PlainSet → Type 0
Differ s t = (i : ℕ) × (i < s.capacity) × (t.has i ≡ not (s.has i))

-- `after` is the result of an operation on `before` and `other`, with the capacity of `before`;
-- `told` is whether the operation changed the set
pub record Combines (decide : Bool → Bool → Bool) (before other after : PlainSet) (told : Bool) :
    Type 0 where
  pub set : after ≡ members_to before.capacity (decided_set decide before other)
  pub each : (i : ℕ) → i < before.capacity →
      contains after i ≡ decide (contains before i) (other.has i)
  pub changed : IsTrue told ↔ Differ before after
  pub unchanged : told ≡ false → after ≡ before
