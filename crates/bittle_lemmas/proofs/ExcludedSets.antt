-- Two sets without a common member, such as mines and open squares, after calls that change them.
use Rattle.std.proofs.Common.{◌≡◌, ℕ, ◌%◌, ◌<◌, Bool, true, false, not, ◌&&◌, nat_lt, inl, inr, sym}
use Rattle.std.proofs.Common.{ap, ◌∙◌, arith}
use Rattle.std.proofs.lemmas.Bool.{and_parts, and_right, cases_Bool, cases_eq, ltb-true, not-true}
use Rattle.std.proofs.lemmas.Bool.{true≢false}
use Rattle.std.proofs.lemmas.Nat.{mod_below}
use Rattle.bittle.specs.PlainSet.{PlainSet, contains, empty_set, has_without, with_index}
use Rattle.bittle.specs.PlainSet.{without_index}
use Rattle.bittle.proofs.CallerSets.{contains_within}
use Rattle.bittle_lemmas.specs.ExcludedSets.{excludes}
use Rattle.bittle_ext.proofs.CallerMembers.{has_other_after_set}
use Rattle.bittle_ext.proofs.CallerSpans.{each_passes, passes_each}

-- ---- `excludes`, stated of each member

pub excludes_if_none : (s r : PlainSet) →
    ((k : ℕ) → k < r.capacity → r.has k ≡ true → s.has k ≡ false) → excludes s r ≡ true
unfolding excludes
excludes_if_none s r none = each_passes (λ k. not (r.has k && s.has k)) 0 r.capacity
    (λ k low up. elim (cases_Bool (r.has k)) [
      | inl has ↦ ap not (and_right (r.has k) (s.has k) (none k (omega (arith, up)) has))
      | inr lacks ↦ ap (λ b. not (b && s.has k)) lacks
    ])

pub none_if_excludes : (s r : PlainSet) → excludes s r ≡ true → (k : ℕ) → k < r.capacity →
    r.has k ≡ true → s.has k ≡ false
unfolding excludes
none_if_excludes s r apart k below has = not-true (s.has k)
    (sym (ap (λ b. not (b && s.has k)) has)
    ∙ passes_each (λ k. not (r.has k && s.has k)) 0 r.capacity apart k (omega arith)
    (omega (arith, below)))

-- ---- what `excludes` implies for an index, which may wrap

-- a member of the second set is no member of the first
pub unset_if_excluded : (s r : PlainSet) (i : ℕ) → excludes s r ≡ true →
    r.capacity ≡ s.capacity → contains r i ≡ true → contains s i ≡ false
unfolding contains
unset_if_excluded s r i apart same has =
    let parts = and_parts (nat_lt 0 r.capacity) (r.has (i % r.capacity)) has in
    let place : i % r.capacity ≡ i % s.capacity = ap (λ c. i % c) same in
    and_right (nat_lt 0 s.capacity) (s.has (i % s.capacity))
    (ap s.has (sym place)
    ∙ none_if_excludes s r apart (i % r.capacity)
    (mod_below i r.capacity (ltb-true 0 r.capacity parts.0)) parts.1)

-- a member of the first set is no member of the second
pub unset_if_excluding : (s r : PlainSet) (i : ℕ) → excludes s r ≡ true →
    r.capacity ≡ s.capacity → contains s i ≡ true → contains r i ≡ false
unset_if_excluding s r i apart same has = elim (cases_Bool (contains r i)) [
  | inl both ↦ absurd (true≢false (sym has ∙ unset_if_excluded s r i apart same both))
  | inr lacks ↦ lacks
]

-- ---- changes after which the sets still have no common member

-- the empty set has no common member with any set
pub excludes_of_empty : (s r : PlainSet) (c : ℕ) → s ≡ empty_set c → excludes s r ≡ true
excludes_of_empty s r c is = excludes_if_none s r (λ k below has. ap (λ t. t.has k) is)

-- after an index was set in the first set, if the second set lacks it
pub excludes_after_set : (s t r : PlainSet) (i : ℕ) → t ≡ with_index s i → i < s.capacity →
    r.capacity ≡ s.capacity → contains r i ≡ false → excludes s r ≡ true → excludes t r ≡ true
excludes_after_set s t r i is low same lacks apart = excludes_if_none t r (λ k below has.
    has_other_after_set s t i k is low (λ here. true≢false (
    sym (ap r.has (sym here) ∙ has) ∙ sym (contains_within r i (omega (arith, same, low))) ∙ lacks))
    ∙ none_if_excludes s r apart k below has)

-- after any index was cleared in the first set
pub excludes_after_clear : (s t r : PlainSet) (i : ℕ) → t ≡ without_index s i →
    excludes s r ≡ true → excludes t r ≡ true
unfolding has_without
excludes_after_clear s t r i is apart = excludes_if_none t r (λ k below has.
    ap (λ u. u.has k) is ∙ and_right _ (s.has k) (none_if_excludes s r apart k below has))

-- after an index was set in the second set, if the first set lacks it
pub excludes_after_other_set : (s r q : PlainSet) (i : ℕ) → q ≡ with_index r i → i < r.capacity →
    r.capacity ≡ s.capacity → contains s i ≡ false → excludes s r ≡ true → excludes s q ≡ true
excludes_after_other_set s r q i is low same lacks apart = excludes_if_none s q (λ k below has.
    elim (cases_eq k i) [
      | inl here ↦
          ap s.has here ∙ sym (contains_within s i (omega (arith, same, low))) ∙ lacks
      | inr other ↦
          none_if_excludes s r apart k (omega (arith, below, ap (λ u. u.capacity) is))
          (sym (has_other_after_set r q i k is low other) ∙ has)
    ])

-- after any index was cleared in the second set
pub excludes_after_other_clear : (s r q : PlainSet) (i : ℕ) → q ≡ without_index r i →
    excludes s r ≡ true → excludes s q ≡ true
unfolding has_without
excludes_after_other_clear s r q i is apart = excludes_if_none s q (λ k below has.
    none_if_excludes s r apart k (omega (arith, below, ap (λ u. u.capacity) is))
    (and_second _ (r.has k) (sym (ap (λ u. u.has k) is) ∙ has)))
  where
    and_second : (a b : Bool) → (a && b) ≡ true → b ≡ true
    and_second a b both = (and_parts a b both).1

-- after any index was cleared in both sets
pub excludes_after_both_clear : (s t r q : PlainSet) (i : ℕ) → t ≡ without_index s i →
    q ≡ without_index r i → excludes s r ≡ true → excludes t q ≡ true
excludes_after_both_clear s t r q i one other apart =
    excludes_after_other_clear t r q i other (excludes_after_clear s t r i one apart)
