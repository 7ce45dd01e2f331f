-- How two sets are compared, and what a set feeds to a hasher. Both use the increasing list of the
-- members.
use Rattle.std.specs.Prelude.{◌≡◌, ℕ, ◌<◌, ◌⊎◌, Bool, true, false, cond, MatchBool, MatchOption}
use Rattle.std.specs.Prelude.{nat_eq, Option, List, ◌++◌, length}
use Rattle.std.specs.Cmp.Lexicographic.{slice_cmp, pointwise}
use Rattle.std.specs.Hash as fed
use Rattle.std.specs.List.{flat_map}
use Rattle.std.specs.Ordering.{nat_cmp}
use Rattle.std.specs.declared.cmp.Ordering.{Ordering}
use Rattle.bittle_bits.specs.Decided.{IsFirstDecided}
use Rattle.bittle_bits.specs.PlainSet.{PlainSet}
use Rattle.bittle_bits.specs.SetOperations.{just_one}
use Rattle.bittle_bits.specs.Values.{set_in, ShapeFits}
use Rattle.bittle_bits.specs.declared.endian.Endian as endian
use Rattle.bittle_bits.specs.declared.shape.Shape as shape

-- the comparison of two lists by their first items that differ; a list that is the start of a
-- longer one comes first
abbrev pub list_cmp : List ℕ → List ℕ → Ordering
list_cmp = slice_cmp nat_cmp

-- whether two lists have the same items in the same order
abbrev pub list_eq : List ℕ → List ℕ → Bool
list_eq = pointwise nat_eq

-- each number is a member of both sets or of neither
abbrev pub AreSame : PlainSet → PlainSet → Type 0
AreSame s t = (i : ℕ) → s.has i ≡ t.has i

-- each number below n is a member of both sets or of neither
abbrev pub AreSameBelow : PlainSet → PlainSet → ℕ → Type 0
AreSameBelow s t n = (i : ℕ) → i < n → s.has i ≡ t.has i

-- left and right fit and have words of the same width; n and m are their capacities
pub record AreCompared {V W X Y : Type 0} (a : shape.Ghosts V W) (b : shape.Ghosts X Y) (left : V)
    (right : X) (n m : ℕ) : Type 0 where
  pub width : a.width ≡ b.width
  pub left_fits : ShapeFits a left
  pub right_fits : ShapeFits b right
  pub capacity : n ≡ (a.big left).capacity
  pub other : m ≡ (b.big right).capacity

-- d is the least number that is in just one of the two sets
abbrev pub IsFirstDifference : PlainSet → PlainSet → ℕ → Type 0
IsFirstDifference = IsFirstDecided just_one

-- r is the least number that is in just one of the two sets, or `None` if they have the same
-- members
abbrev pub TellsFirstDifference : PlainSet → PlainSet → Option ℕ → Type 0
TellsFirstDifference s t r = MatchOption r (AreSame s t) (IsFirstDifference s t)

-- `TellsFirstDifference` for the sets of two values, both read in the same bit order
abbrev pub TellsFirstDifferenceOf : {V W X Y E : Type 0} → shape.Ghosts V W → shape.Ghosts X Y →
    endian.Ghosts E → V → X → Option ℕ → Type 0
TellsFirstDifferenceOf a b e left right r =
    TellsFirstDifference (set_in a e left) (set_in b e right) r

-- some member is greater than the number
abbrev pub HasPast : PlainSet → ℕ → Type 0
HasPast s d = (m : ℕ) × (d < m) × (s.has m ≡ true)

-- no member is greater than the number
abbrev pub HasNonePast : PlainSet → ℕ → Type 0
HasNonePast s d = (m : ℕ) → d < m → s.has m ≡ false

-- d is a member of s if `is_first` is true and else of t, but not of both; b tells whether the set
-- without d has a member greater than d
abbrev pub GoesOn : Bool → PlainSet → PlainSet → ℕ → Bool → Type 0
GoesOn is_first s t d b = MatchBool b
    (HasPast (cond is_first t s) d) (HasNonePast (cond is_first t s) d)

-- s comes before t: d is the least number that is in just one of the two sets. Either d is in s,
-- and t has a member greater than d; or d is in t, and s has no member greater than d.
abbrev pub Precedes : PlainSet → PlainSet → Type 0
Precedes s t =
    (d : ℕ) × AreSameBelow s t d
    × (((s.has d ≡ true) × (t.has d ≡ false) × HasPast t d)
    ⊎ ((s.has d ≡ false) × (t.has d ≡ true) × HasNonePast s d))

-- what a list feeds to a hasher: each item, and then how many there are
abbrev pub feed : List ℕ → List (List ℕ)
feed xs = flat_map fed.u32 xs ++ fed.u32 (length xs)
