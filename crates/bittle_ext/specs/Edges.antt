-- The edges of a set: the numbers at which its runs begin and end.
use Rattle.std.specs.Prelude.{◌≡◌, ℕ, ◌<◌, Bool, true, false, ⊤, List, [], ◌∷◌}
use Rattle.std.specs.declared.ops.Range.{Range}
use Rattle.bittle.specs.PlainSet.{PlainSet}
use Rattle.bittle.specs.SetOperations.{just_one}
use Rattle.bittle.specs.Walk.{ones_or_zeros}
use Rattle.bittle_ext.specs.Rotations.{shifted_up}
use Rattle.bittle_ext.specs.Runs.{run}
use Rattle.bittle_ext.specs.Views.{decided_until}

-- the numbers at which membership changes: of each of them and the number right before it, just one
-- is a member. The capacity is c
abbrev pub changes_until : ℕ → PlainSet → PlainSet
changes_until c s = decided_until just_one c s (shifted_up s 1)

-- the numbers at which runs of set bits (if the flag is true) or of unset bits (if it is false)
-- begin, and those right after their ends
abbrev pub edges : Bool → PlainSet → PlainSet
edges ones s = changes_until s.capacity (ones_or_zeros ones s)

-- the runs that begin and end, alternately, at the numbers of a list; if the last run has no end in
-- the list, it ends at `to`
unfoldable pub paired : ℕ → List ℕ → List (Range ℕ)
paired to [] = []
paired to (start ∷ []) = run start to ∷ []
paired to (start ∷ end ∷ xs) = run start end ∷ paired to xs

-- the numbers of the list are below the capacity, and are members and no members alternately; the
-- first is a member
abbrev pub Alternate : PlainSet → List ℕ → Type 0
Alternate s [] = ⊤
Alternate s (start ∷ []) = (start < s.capacity) × (s.has start ≡ true)
Alternate s (start ∷ end ∷ xs) = (start < s.capacity) × (s.has start ≡ true)
    × (end < s.capacity) × (s.has end ≡ false) × Alternate s xs

-- the list has an even number of items
abbrev pub IsEven : List ℕ → Type 0
IsEven [] = ⊤
IsEven (start ∷ []) = ⊥
IsEven (start ∷ end ∷ xs) = IsEven xs
