-- The least number that is not alive, and how a search finds it.
use Rattle.std.proofs.Common.{◌≡◌, ℕ, ◌<◌, ◌≤◌, Bool, true, false, not, nat_lt, Option, Some, None}
use Rattle.std.proofs.Common.{List, [], ◌∷◌, refl, sym, ap, ◌∙◌, subst, inl, inr, arith}
use Rattle.std.proofs.lemmas.Bool.{cases_lt, ltb-true, and_parts, true≢false}
use Rattle.std.specs.Prelude.{slice_get, MatchOption}
use Rattle.bittle.specs.PlainSet.{PlainSet, ascending, complement, lacks}
use Rattle.bittle.specs.Searches.{IsFirstIn}
use Rattle.bittle.proofs.CallerSets.{complement_within}
use Rattle.bittle.proofs.CallerLists.{ascending_none, ascending_first}

-- a search of all numbers finds the first item of the increasing list
pub first_listed : (s : PlainSet) (end : ℕ) (found : Option ℕ) → end ≡ s.capacity →
    IsFirstIn s 0 end found → found ≡ slice_get (ascending s) 0
first_listed s end found e first =
    by (ascending s) refl found (subst (λ n. IsFirstIn s 0 n found) e first)
  where
    by : (xs : List ℕ) → ascending s ≡ xs → (o : Option ℕ) → IsFirstIn s 0 s.capacity o →
        o ≡ slice_get xs 0
    by [] e None none = refl
    by [] e (Some p) one =
        absurd (true≢false (sym one.2 ∙ ascending_none s e p (omega arith) one.1))
    by (i ∷ rest) e None none = let other = ascending_first s i rest e in
        absurd (true≢false (sym other.2 ∙ none i (omega arith) other.1))
    by (i ∷ rest) e (Some p) one = let other = ascending_first s i rest e in
        elim (cases_lt p i) [
          | inl l ↦ absurd (true≢false (sym one.2 ∙ other.3 p (omega arith) l))
          | inr g ↦ elim (cases_lt i p) [
            | inl l ↦ absurd (true≢false (sym other.2 ∙ one.3 i (omega arith) l))
            | inr h ↦ let same : p ≡ i = omega arith in ap Some same
          ]
        ]

-- the first item of the increasing list is the first member
pub listed_first : (s : PlainSet) (found : Option ℕ) → slice_get (ascending s) 0 ≡ found →
    IsFirstIn s 0 s.capacity found
listed_first s found e = subst (IsFirstIn s 0 s.capacity) e (by (ascending s) refl)
  where
    by : (xs : List ℕ) → ascending s ≡ xs → IsFirstIn s 0 s.capacity (slice_get xs 0)
    by [] e = ascending_none s e
    by (i ∷ rest) e = ascending_first s i rest e

-- a number of the complement is below the capacity, and no member
pub outside : (s : PlainSet) (k : ℕ) → (complement s).has k ≡ true →
    (k < s.capacity) × (s.has k ≡ false)
unfolding lacks
outside s k e =
    let parts = and_parts (nat_lt k s.capacity) (not (s.has k)) e in
    (ltb-true k s.capacity parts.0, by (s.has k) parts.1)
  where
    by : (b : Bool) → not b ≡ true → b ≡ false
    by true e = absurd (cc)
    by false e = refl

-- what a search of the complement finds is at most each number that is no member
pub least_outside : (s : PlainSet) (found : Option ℕ) →
    IsFirstIn (complement s) 0 s.capacity found →
    (k : ℕ) → k < s.capacity → s.has k ≡ false → MatchOption found ⊥ (λ new. new ≤ k)
least_outside s None none k h dead =
    absurd (true≢false (sym (complement_within s k h ∙ ap not dead) ∙ none k (omega arith) h))
least_outside s (Some e) one k h dead = elim (cases_lt k e) [
  | inl l ↦ absurd (true≢false (sym (complement_within s k h ∙ ap not dead)
      ∙ one.3 k (omega arith) l))
  | inr g ↦ omega (arith, g)
]
