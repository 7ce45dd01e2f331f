-- The two ends of a set, its front and its back: `true` names the front.
use Rattle.std.specs.Prelude.{◌≡◌, ℕ, Bool, true, false, not, nat_lt, List, [], ◌∷◌, ◌++◌, Option}
use Rattle.std.specs.Prelude.{MatchOption}
use Rattle.bittle_bits.specs.PlainSet.{PlainSet, IsLeastMember, IsGreatestMember}
use Rattle.bittle_bits.specs.Searches.{IsFirstIn, IsLastIn}

-- the list xs with the item x added: at its front for `true`, at its back for `false`
abbrev pub with_end : Bool → ℕ → List ℕ → List ℕ
with_end true x xs = x ∷ xs
with_end false x xs = xs ++ x ∷ []

-- a step from the front yields as `YieldsFirst` says, a step from the back as `YieldsLast` says
abbrev pub YieldsFrom : {S : Type 0} → Bool → (S → List ℕ) → S → Option ℕ → S → Type 0
YieldsFrom front rest s r t = MatchOption r ((rest s ≡ []) × (rest t ≡ []))
    (λ x. rest s ≡ with_end front x (rest t))

-- the item at an end was taken, and r is its place (`index` gives the item at a place); or no item
-- was left, r is None, and nothing changed
abbrev pub YieldsPlace : {S : Type 0} → Bool → (ℕ → ℕ) → (S → List ℕ) → S → Option ℕ → S → Type 0
YieldsPlace front index rest s r t = MatchOption r ((rest s ≡ []) × (t ≡ s))
    (λ at. rest s ≡ with_end front (index at) (rest t))

-- the number is how far the least member lies from the front (for `true`), or how far the greatest
-- member lies from the back (for `false`); it is the capacity if there is no member
abbrev pub IsEndMember : Bool → PlainSet → ℕ → Type 0
IsEndMember true = IsLeastMember
IsEndMember false = IsGreatestMember

-- the result is the least member in a range (for `true`) or the greatest (for `false`), or None if
-- there is none
abbrev pub IsEndIn : Bool → PlainSet → ℕ → ℕ → Option ℕ → Type 0
IsEndIn true = IsFirstIn
IsEndIn false = IsLastIn

-- for the front, whether the number k is at least `from`; for the back, whether k is below `to`
abbrev pub is_ahead : Bool → ℕ → ℕ → ℕ → Bool
is_ahead true from to k = not (nat_lt k from)
is_ahead false from to k = nat_lt k to
