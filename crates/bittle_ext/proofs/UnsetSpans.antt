-- Spans of bits that stay unset after calls on a set, such as those past the last cell of a board.
use Rattle.std.proofs.Common.{◌≡◌, ℕ, ◌+◌, ◌<◌, ◌≤◌, ◌⊎◌, Bool, true, false, cond, not, nat_lt}
use Rattle.std.proofs.Common.{List, [], ◌∷◌, All, inl, inr, refl, sym, ap, ◌∙◌, arith}
use Rattle.std.specs.List.{fold}
use Rattle.std.proofs.lemmas.Bool.{and_parts, and_right, cases_Bool, ltb-true, not-true, true≢false}
use Rattle.bittle.specs.PlainSet.{PlainSet, complement, contains, empty_set, has_changed}
use Rattle.bittle.specs.PlainSet.{has_without, is_in_span, lacks, with_index, with_span}
use Rattle.bittle.specs.PlainSet.{without_index, without_span}
use Rattle.bittle.specs.Searches.{NoneIn}
use Rattle.bittle.specs.SetOperations.{combination_of}
use Rattle.bittle.proofs.CallerSets.{combination_within, complement_within, contains_within}
use Rattle.bittle_ext.specs.Numbers.{with_copied}
use Rattle.bittle_ext.specs.ReservedSpans.{lacks_span}
use Rattle.bittle_ext.proofs.CallerMembers.{has_other_after_set}
use Rattle.bittle_ext.proofs.CallerShifts.{has_outside_copied}
use Rattle.bittle_ext.proofs.CallerSpans.{each_if_has_span, has_outside_set_span, has_span_if_each}
use Rattle.bittle_ext.proofs.ListedMembers.{each_after_all}

-- ---- such a span, and its numbers

-- each of its numbers is below the capacity, and no member
lacks_each : (s : PlainSet) (from to : ℕ) →
    ((k : ℕ) → from ≤ k → k < to → (k < s.capacity) × (s.has k ≡ false)) →
    lacks_span s from to ≡ true
unfolding lacks_span
lacks_each s from to all = has_span_if_each (complement s) from to (λ k low up.
    let both = all k low up in complement_within s k both.0 ∙ ap not both.1)

pub lacks_span_if_none : (s : PlainSet) (from to : ℕ) → to ≤ s.capacity → NoneIn s from to →
    lacks_span s from to ≡ true
lacks_span_if_none s from to within none =
    lacks_each s from to (λ k low up. (omega (arith, up, within), none k low up))

each_lacked : (s : PlainSet) (from to : ℕ) → lacks_span s from to ≡ true → (k : ℕ) → from ≤ k →
    k < to → (k < s.capacity) × (s.has k ≡ false)
unfolding lacks_span lacks
each_lacked s from to lacked k low up =
    let parts = and_parts (nat_lt k s.capacity) (not (s.has k))
    (each_if_has_span (complement s) from to lacked k low up) in
    (ltb-true k s.capacity parts.0, not-true (s.has k) parts.1)

pub none_if_lacks_span : (s : PlainSet) (from to : ℕ) → lacks_span s from to ≡ true →
    NoneIn s from to
none_if_lacks_span s from to lacked k low up = (each_lacked s from to lacked k low up).1

-- ---- what it tells

-- if `lacks_span` is true, an index of the span is unset
pub unset_in_span : (s : PlainSet) (from to i : ℕ) → lacks_span s from to ≡ true → from ≤ i →
    i < to → contains s i ≡ false
unset_in_span s from to i lacked low up =
    let parts = each_lacked s from to lacked i low up in contains_within s i parts.0 ∙ parts.1

-- ---- where it stays

-- a span stays where the capacity does, and none of its numbers becomes a member
stays_unset : (s t : PlainSet) (from to : ℕ) → t.capacity ≡ s.capacity →
    ((k : ℕ) → from ≤ k → k < to → s.has k ≡ false → t.has k ≡ false) →
    lacks_span s from to ≡ true → lacks_span t from to ≡ true
stays_unset s t from to same still lacked = lacks_each t from to (λ k low up.
    let parts = each_lacked s from to lacked k low up in
    (omega (arith, same, parts.0), still k low up parts.1))

-- `lacks_span` is true of the empty set
pub lacks_span_of_empty : (t : PlainSet) (c from to : ℕ) → t ≡ empty_set c → to ≤ c →
    lacks_span t from to ≡ true
lacks_span_of_empty t c from to is within =
    ap (λ u. lacks_span u from to) is
    ∙ lacks_span_if_none (empty_set c) from to within (λ k low up. refl)

-- `lacks_span` stays true after an index before the span was set
pub lacks_span_after_set : (s t : PlainSet) (i from to : ℕ) → t ≡ with_index s i → i < from →
    i < s.capacity → lacks_span s from to ≡ true → lacks_span t from to ≡ true
lacks_span_after_set s t i from to is before below = stays_unset s t from to
    (ap (λ u. u.capacity) is) (λ k low up unset.
    has_other_after_set s t i k is below (λ same. omega (arith, same, low, before)) ∙ unset)

-- `lacks_span` stays true after any index was cleared
pub lacks_span_after_clear : (s t : PlainSet) (i from to : ℕ) → t ≡ without_index s i →
    lacks_span s from to ≡ true → lacks_span t from to ≡ true
unfolding has_without
lacks_span_after_clear s t i from to is = stays_unset s t from to (ap (λ u. u.capacity) is)
    (λ k low up unset. ap (λ u. u.has k) is ∙ and_right _ (s.has k) unset)

-- `lacks_span` stays true after a span before it was set
pub lacks_span_after_set_span : (s t : PlainSet) (low high from to : ℕ) → t ≡ with_span s low high →
    high ≤ from → lacks_span s from to ≡ true → lacks_span t from to ≡ true
lacks_span_after_set_span s t low high from to is before = stays_unset s t from to
    (ap (λ u. u.capacity) is) (λ k lo up unset.
    has_outside_set_span s t low high k is (inr (omega (arith, before, lo))) ∙ unset)

-- `lacks_span` stays true after any span was cleared
pub lacks_span_after_clear_span : (s t : PlainSet) (low high from to : ℕ) →
    t ≡ without_span s low high → lacks_span s from to ≡ true → lacks_span t from to ≡ true
unfolding has_changed
lacks_span_after_clear_span s t low high from to is = stays_unset s t from to
    (ap (λ u. u.capacity) is) (λ k lo up unset.
    ap (λ u. u.has k) is ∙ ap (λ b. cond (is_in_span low high k) false b) unset
    ∙ either (is_in_span low high k))
  where
    either : (b : Bool) → cond b false false ≡ false
    either true = refl
    either false = refl

-- `lacks_span` stays true after each index of a list was set, if all of them are before the span
pub lacks_span_after_all : (s t : PlainSet) (xs : List ℕ) (from to : ℕ) →
    t ≡ fold with_index s xs → All (λ i. i < from) xs → from ≤ s.capacity →
    lacks_span s from to ≡ true → lacks_span t from to ≡ true
lacks_span_after_all s t xs from to is items within lacked = stays_unset s t from to
    (ap (λ u. u.capacity) is ∙ capacity_after xs s) (λ k low up unset. elim (cases_Bool (t.has k)) [
      | inl has ↦ elim (each_after_all (λ i. (i < from) ⊎ (s.has i ≡ true)) s t xs is
          (λ n d lt. omega (arith, items n d lt, within)) (λ n d lt. inl (items n d lt))
          (λ i member. inr member) k has) [
            | inl before ↦ absurd (omega (arith, before, low))
            | inr member ↦ absurd (true≢false (sym member ∙ unset))
          ]
      | inr none ↦ none
    ]) lacked
  where
    capacity_after : (xs : List ℕ) (s : PlainSet) → (fold with_index s xs).capacity ≡ s.capacity
    capacity_after [] s = refl
    capacity_after (x ∷ xs) s = capacity_after xs (with_index s x)

-- `lacks_span` stays true after a copy to numbers before the span
pub lacks_span_after_copy : (s t u : PlainSet) (at n low from to : ℕ) →
    t ≡ with_copied s at n u low → at + n ≤ from → lacks_span s from to ≡ true →
    lacks_span t from to ≡ true
lacks_span_after_copy s t u at n low from to is before = stays_unset s t from to
    (ap (λ v. v.capacity) is) (λ k lo up unset.
    has_outside_copied s t u at n low k is (inr (omega (arith, before, lo))) ∙ unset)

-- `lacks_span` is true of the result of an operation if it is true of both sets
pub lacks_span_after_operation : (decide : Bool → Bool → Bool) (s t u : PlainSet) (from to : ℕ) →
    decide false false ≡ false → u ≡ combination_of decide s t → lacks_span s from to ≡ true →
    lacks_span t from to ≡ true → lacks_span u from to ≡ true
lacks_span_after_operation decide s t u from to neither is ours theirs =
    lacks_each u from to (λ k low up.
    let mine = each_lacked s from to ours k low up in
    let other = each_lacked t from to theirs k low up in (
      omega (arith, mine.0, ap (λ v. v.capacity) is),
      ap (λ v. v.has k) is ∙ combination_within decide s t k mine.0 other.0
          ∙ rw (mine.1, other.1) neither,
    ))
