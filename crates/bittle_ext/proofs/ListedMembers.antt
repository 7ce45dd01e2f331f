-- The list of a set's members, and sets after `from_indexes` and `insert_all`, which set each index
-- of a list.
use Rattle.std.proofs.Common.{◌≡◌, ◌==◌, ◌||◌, ℕ, ◌+◌, ◌<◌, ◌≤◌, true, List, [], ◌∷◌, length, All}
use Rattle.std.proofs.Common.{inl, inr, refl, sym, ap, ◌∙◌, subst, arith}
use Rattle.std.specs.List.{fold}
use Rattle.std.proofs.lemmas.Bool.{cases_Bool, cases_lt, eqb-true}
use Rattle.std.proofs.lemmas.List.Elements.{All-nil, All-cons, All-head, All-tail}
use Rattle.bittle.specs.PlainSet.{PlainSet, ascending, contains, size, with_index}
use Rattle.bittle.proofs.CallerChanges.{contains_after_set, still_set_after_set}
use Rattle.bittle_ext.proofs.CallerMembers.{has_with_index, size_after_set}
use Rattle.bittle_bits.proofs.AscendingLists as lists
use Rattle.bittle_bits.proofs.Sizes.{size-le}

-- the length of the increasing list of the members is the size of the set
pub ascending_length : (s : PlainSet) → length (ascending s) ≡ size s
ascending_length = lists.ascending-length

-- a member stays one where each index of a list is set
kept : (xs : List ℕ) (s : PlainSet) (i : ℕ) → contains s i ≡ true →
    contains (fold with_index s xs) i ≡ true
kept [] s i has = has
kept (x ∷ xs) s i has =
    kept xs (with_index s x) i (still_set_after_set s (with_index s x) x i refl has)

pub still_set_after_all : (s t : PlainSet) (xs : List ℕ) (i : ℕ) → t ≡ fold with_index s xs →
    contains s i ≡ true → contains t i ≡ true
still_set_after_all s t xs i is has = ap (λ u. contains u i) is ∙ kept xs s i has

-- each index of the list is a member then
each_added : (xs : List ℕ) (s : PlainSet) → 0 < s.capacity →
    All (λ i. contains (fold with_index s xs) i ≡ true) xs
each_added [] s some = All-nil (λ i. contains s i ≡ true)
each_added (x ∷ xs) s some =
    All-cons (λ i. contains (fold with_index (with_index s x) xs) i ≡ true) x xs
    (kept xs (with_index s x) x (contains_after_set s (with_index s x) x refl some))
    (each_added xs (with_index s x) some)

pub contains_after_all : (s t : PlainSet) (xs : List ℕ) → t ≡ fold with_index s xs →
    0 < s.capacity → All (λ i. contains t i ≡ true) xs
contains_after_all s t xs is some =
    subst (λ (u : PlainSet). All (λ i. contains u i ≡ true) xs) (sym is) (each_added xs s some)

-- what holds of each member and of each index of the list holds of each member then
each_member : (P : ℕ → Type 0) (xs : List ℕ) (s : PlainSet) → All (λ i. i < s.capacity) xs →
    All P xs → ((k : ℕ) → s.has k ≡ true → P k) → (k : ℕ) →
    (fold with_index s xs).has k ≡ true → P k
each_member P [] s below items members = members
each_member P (x ∷ xs) s below items members =
    each_member P xs (with_index s x) (All-tail (λ i. i < s.capacity) x xs below)
    (All-tail P x xs items) with_one
  where
    with_one : (k : ℕ) → (with_index s x).has k ≡ true → P k
    with_one k has = elim (cases_Bool (k == x)) [
      | inl e ↦ subst P (sym (eqb-true k x e)) (All-head P x xs items)
      | inr apart ↦ members k
          (sym (has_with_index s x k (All-head (λ i. i < s.capacity) x xs below)
          ∙ ap (λ b. b || s.has k) apart) ∙ has)
    ]

pub each_after_all : (P : ℕ → Type 0) (s t : PlainSet) (xs : List ℕ) →
    t ≡ fold with_index s xs → All (λ i. i < s.capacity) xs → All P xs →
    ((k : ℕ) → s.has k ≡ true → P k) → (k : ℕ) → t.has k ≡ true → P k
each_after_all P s t xs is below items members k has =
    each_member P xs s below items members k (sym (ap (λ u. u.has k) is) ∙ has)

-- after each index of a list was set, a set has at most as many more members as the list has items
pub size_after_all : (s t : PlainSet) (xs : List ℕ) → t ≡ fold with_index s xs →
    size t ≤ size s + length xs
size_after_all s t xs is = omega (arith, ap size is, each_adds xs s)
  where
    one_more : (s : PlainSet) (x : ℕ) → size (with_index s x) ≤ size s + 1
    one_more s x = elim (cases_lt 0 s.capacity) [
      | inl some ↦ size_after_set s (with_index s x) x refl some
      | inr none ↦ omega (arith, none, size-le (with_index s x))
    ]

    each_adds : (xs : List ℕ) (s : PlainSet) → size (fold with_index s xs) ≤ size s + length xs
    each_adds [] s = omega arith
    each_adds (x ∷ xs) s = omega (arith, each_adds xs (with_index s x), one_more s x)
