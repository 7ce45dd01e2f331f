-- Which members a combined set has kept, and which stay after `retain`.
use Rattle.std.proofs.Common.{◌≡◌, ℕ, ◌<◌, ◌≤◌, ◌==◌, ◌&&◌, Bool, true, false, not, List, [], ◌∷◌}
use Rattle.std.proofs.Common.{inl, inr, sym, ap, ◌∙◌, arith}
use Rattle.std.proofs.lemmas.Bool.{and_parts, cases_lt, not-true, or_cases, or_left, or_right}
use Rattle.std.proofs.lemmas.Bool.{true≢false}
use Rattle.std.specs.List.{items_where_true, list_any}
use Rattle.bittle.specs.PlainSet.{PlainSet, ascending}
use Rattle.bittle.specs.SetOperations.{first_alone}
use Rattle.bittle.proofs.CallerLists.{ascending_has}
use Rattle.bittle_ext.specs.Changes.{Retains}
use Rattle.bittle_ext.specs.SetRelations.{AreDisjoint, IsSubset}
use Rattle.bittle_ext.proofs.CombinedSets.{combined, combined_below, combined_past}

-- a set has no member at or past its capacity
abbrev pub Ends : PlainSet → Type 0
Ends s = (i : ℕ) → s.capacity ≤ i → s.has i ≡ false

module _ (f : Bool → Bool → Bool) (s t u : PlainSet) (is : u ≡ combined f s t) where
  -- an operation that keeps each member of the first set
  pub keeps_each : ((a b : Bool) → a ≡ true → f a b ≡ true) → Ends s → IsSubset s u
  keeps_each keeps ends i has = elim (cases_lt i s.capacity) [
    | inl l ↦ ap (λ v. v.has i) is ∙ combined_below f s t i l ∙ keeps (s.has i) (t.has i) has
    | inr g ↦ absurd (true≢false (sym has ∙ ends i g))
  ]

  -- an operation that adds each member of the second set, if this is not longer
  pub adds_each : ((a b : Bool) → b ≡ true → f a b ≡ true) → t.capacity ≤ s.capacity → Ends t →
      IsSubset t u
  adds_each adds fits ends i has = elim (cases_lt i s.capacity) [
    | inl l ↦ ap (λ v. v.has i) is ∙ combined_below f s t i l ∙ adds (s.has i) (t.has i) has
    | inr g ↦ absurd (true≢false (sym has ∙ ends i (omega (arith, g, fits))))
  ]

  -- a member of the result was decided so
  pub was_decided : (i : ℕ) → u.has i ≡ true → f (s.has i) (t.has i) ≡ true
  was_decided i has = elim (cases_lt i s.capacity) [
    | inl l ↦ sym (combined_below f s t i l) ∙ sym (ap (λ v. v.has i) is) ∙ has
    | inr g ↦ absurd (true≢false (sym has ∙ ap (λ v. v.has i) is ∙ combined_past f s t i g))
  ]

-- what two sets have in common is in each of them
pub both_in_first : (s t u : PlainSet) → u ≡ combined ◌&&◌ s t → IsSubset u s
both_in_first s t u is i has =
    (and_parts (s.has i) (t.has i) (was_decided ◌&&◌ s t u is i has)).0

pub both_in_second : (s t u : PlainSet) → u ≡ combined ◌&&◌ s t → IsSubset u t
both_in_second s t u is i has =
    (and_parts (s.has i) (t.has i) (was_decided ◌&&◌ s t u is i has)).1

-- what a set has alone is in it, and not in the other set
pub alone_in_first : (s t u : PlainSet) → u ≡ combined first_alone s t → IsSubset u s
alone_in_first s t u is i has =
    (and_parts (s.has i) (not (t.has i)) (was_decided first_alone s t u is i has)).0

pub alone_apart : (s t u : PlainSet) → u ≡ combined first_alone s t → AreDisjoint u t
alone_apart s t u is i has =
    not-true (t.has i)
    (and_parts (s.has i) (not (t.has i)) (was_decided first_alone s t u is i has)).1

-- an item that was picked from a list is in the list
picked_has : (q : ℕ → Bool) (bs : List Bool) (xs : List ℕ) →
    list_any q (items_where_true bs xs) ≡ true → list_any q xs ≡ true
picked_has q [] xs h = absurd (true≢false (sym h))
picked_has q (b ∷ bs) [] h = h
picked_has q (true ∷ bs) (x ∷ xs) h =
    elim (or_cases (q x) (list_any q (items_where_true bs xs)) h) [
      | inl a ↦ or_left (q x) (list_any q xs) a
      | inr b ↦ or_right (q x) (list_any q xs) (picked_has q bs xs b)
    ]
picked_has q (false ∷ bs) (x ∷ xs) h = or_right (q x) (list_any q xs) (picked_has q bs xs h)

-- what a closure keeps was there before
pub retained_before : {F : Type 0} (step : F → ℕ → Bool → F → Type 0) (keep : F)
    (old now : PlainSet) → Ends now → Retains step keep old now → IsSubset now old
retained_before step keep old now ends retains i has = elim (cases_lt i now.capacity) [
  | inl l ↦
      let test : ℕ → Bool = λ k. k == i in
      let there : list_any test (ascending now) ≡ true = ascending_has now i l ∙ has in
      sym (ascending_has old i (omega (arith, l, retains.capacity)))
      ∙ picked_has test retains.asked.0 (ascending old)
      (sym (ap (λ xs. list_any test xs) retains.asked.4) ∙ there)
  | inr g ↦ absurd (true≢false (sym has ∙ ends i g))
]
