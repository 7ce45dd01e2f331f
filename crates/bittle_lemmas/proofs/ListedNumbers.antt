-- The members of a set after each index of a list was set.
use Rattle.std.proofs.Common.{◌≡◌, ℕ, ◌==◌, ◌<◌, Bool, true, false, ◌||◌, List, [], ◌∷◌, All, inl}
use Rattle.std.proofs.Common.{inr, refl, sym, ap, ◌∙◌}
use Rattle.std.specs.List.{fold, list_any}
use Rattle.std.proofs.lemmas.Bool.{cases_eq, eq-eqb, ne_eqb}
use Rattle.std.proofs.lemmas.List.Elements.{All-head, All-tail}
use Rattle.bittle.specs.PlainSet.{PlainSet, contains, with_index}
use Rattle.bittle.proofs.CallerSets.{contains_within}
use Rattle.bittle_ext.proofs.CallerMembers.{has_with_index}

-- after an index was set, a number is a member if it is that index, or if it was a member before
pub contains_with_index : (s : PlainSet) (i k : ℕ) → i < s.capacity → k < s.capacity →
    contains (with_index s i) k ≡ ((k == i) || contains s k)
contains_with_index s i k low up =
    contains_within (with_index s i) k up ∙ has_with_index s i k low
    ∙ ap (λ b. (k == i) || b) (sym (contains_within s k up))

-- after each index of a list was set, a number is a member if it was one, or is in the list
pub has_after_all : (xs : List ℕ) (s t : PlainSet) (k : ℕ) → t ≡ fold with_index s xs →
    All (λ i. i < s.capacity) xs → t.has k ≡ (s.has k || list_any (λ i. i == k) xs)
has_after_all xs s t k is below = ap (λ u. u.has k) is ∙ each xs s below
  where
    or_none : (a : Bool) → a ≡ (a || false)
    or_none true = refl
    or_none false = refl

    turned : (i : ℕ) → (k == i) ≡ (i == k)
    turned i = elim (cases_eq k i) [
      | inl same ↦ eq-eqb k i same ∙ sym (eq-eqb i k (sym same))
      | inr apart ↦ ne_eqb k i apart ∙ sym (ne_eqb i k (λ e. apart (sym e)))
    ]

    regrouped : (a b c : Bool) → ((a || b) || c) ≡ (b || (a || c))
    regrouped true true c = refl
    regrouped true false c = refl
    regrouped false true c = refl
    regrouped false false c = refl

    each : (xs : List ℕ) (s : PlainSet) → All (λ i. i < s.capacity) xs →
        (fold with_index s xs).has k ≡ (s.has k || list_any (λ i. i == k) xs)
    each [] s below = or_none (s.has k)
    each (x ∷ xs) s below =
        each xs (with_index s x) (All-tail (λ i. i < s.capacity) x xs below)
        ∙ ap (λ b. b || list_any (λ i. i == k) xs)
        (has_with_index s x k (All-head (λ i. i < s.capacity) x xs below))
        ∙ regrouped (k == x) (s.has k) (list_any (λ i. i == k) xs)
        ∙ ap (λ b. s.has k || (b || list_any (λ i. i == k) xs)) (turned x)
