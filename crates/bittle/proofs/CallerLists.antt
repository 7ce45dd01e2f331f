-- Facts on the increasing list of a set's members that callers cite.
use Rattle.std.proofs.Common.{◌≡◌, ℕ, zero, suc, ◌-◌, ◌<◌, ◌≤◌, ◌==◌, Bool, true, false, cond, List}
use Rattle.std.proofs.Common.{[], ◌∷◌, length, get_or, Some, inl, inr, refl, sym, ap, ◌∙◌, subst}
use Rattle.std.proofs.Common.{arith, IsTrue, ◌↔◌}
use Rattle.std.specs.List.{Contains, list_any}
use Rattle.std.specs.Ordering.{is_eq}
use Rattle.std.proofs.lemmas.Bool.{cases_Bool, eqb-true}
use Rattle.std.proofs.lemmas.Bool.Decides.{nat_tests}
use Rattle.std.proofs.lemmas.List.Elements.{Contains-append_left, Contains-push, at_from_Contains}
use Rattle.std.proofs.lemmas.List.Folds.{Any-from_list_any, list_any_at}
use Rattle.bittle_bits.specs.PlainSet.{PlainSet, ascending, ascending_from}
use Rattle.bittle_bits.specs.Searches.{NoneIn, IsFirstIn}
use Rattle.bittle_bits.proofs.AscendingLists.{ascending-below as below, ascending-at}
use Rattle.bittle_bits.proofs.AscendingLists.{ascending_from-none}
use Rattle.bittle.specs.Comparison.{list_cmp, AreSame}
use Rattle.bittle_bits.proofs.FirstItems.{ascending_from-least, least_or_none}
use Rattle.bittle.proofs.ListComparison.{list_cmp-precedes, equal_iff_same}

-- if the increasing list is empty, there is no member
pub ascending_none : (s : PlainSet) → ascending s ≡ [] → NoneIn s 0 s.capacity
ascending_none s e =
    elim (least_or_none s.has 0 s.capacity) [
      | inl none ↦ λ k p q. none k p (omega arith)
      | inr w ↦
          let m = s.capacity - suc w.0 in
          let found = ascending_from-least s.has 0 s.capacity w.0 m w.1.0
          (omega (arith, w.1.1)) w.1.2 w.1.3 in
          absurd (cc)
    ]

-- the first item is the least member
pub ascending_first : (s : PlainSet) (i : ℕ) (rest : List ℕ) → ascending s ≡ i ∷ rest →
    IsFirstIn s 0 s.capacity (Some i)
ascending_first s i rest e =
    elim (least_or_none s.has 0 s.capacity) [
      | inl none ↦ let nothing = ascending_from-none s.has 0 s.capacity none in absurd (cc)
      | inr w ↦
          let m = s.capacity - suc w.0 in
          let found = ascending_from-least s.has 0 s.capacity w.0 m w.1.0
          (omega (arith, w.1.1)) w.1.2 w.1.3 in
          let same : w.0 ≡ i = cc in
          subst (λ (k : ℕ). IsFirstIn s 0 s.capacity (Some k)) same
          (w.1.0, omega (arith, w.1.1), w.1.2, w.1.3)
    ]

-- each of the members is below the capacity
pub ascending_below : (s : PlainSet) (k : ℕ) → k < length (ascending s) →
    get_or (ascending s) k 0 < s.capacity
ascending_below s = (below s).1

item_passes : (p : ℕ → Bool) (from n k : ℕ) → k < length (ascending_from p from n) →
    p (get_or (ascending_from p from n) k 0) ≡ true
unfolding ascending_from
item_passes p from zero k h = absurd (omega arith)
item_passes p from (suc n) k h =
    elim (p from) as (λ b. p from ≡ b → k < length
    (cond b (from ∷ ascending_from p (suc from) n) (ascending_from p (suc from) n)) →
    p (get_or (cond b (from ∷ ascending_from p (suc from) n) (ascending_from p (suc from) n)) k
    0) ≡ true) [
      | true ↦ λ is l. first (item_passes p (suc from) n) is k l
      | false ↦
          λ is l. item_passes p (suc from) n k l
    ] refl h
  where
    first : ((k : ℕ) → k < length (ascending_from p (suc from) n) →
        p (get_or (ascending_from p (suc from) n) k 0) ≡ true) → p from ≡ true → (k : ℕ) →
        k < length (from ∷ ascending_from p (suc from) n) →
        p (get_or (from ∷ ascending_from p (suc from) n) k 0) ≡ true
    first later is zero l = is
    first later is (suc k) l = later k (omega arith)

-- each item is a member
pub ascending_member : (s : PlainSet) (k : ℕ) → k < length (ascending s) →
    s.has (get_or (ascending s) k 0) ≡ true
ascending_member s = item_passes s.has 0 s.capacity

listed : (s : PlainSet) (i : ℕ) → i < s.capacity → s.has i ≡ true → Contains (ascending s) i
listed s i inside here =
    subst (λ xs. Contains xs i) (sym (ascending-at s i inside here))
    (Contains-append_left _ _ i (Contains-push (ascending_from s.has 0 i) i))

unlisted : (s : PlainSet) (i : ℕ) → Contains (ascending s) i → (i < s.capacity) × (s.has i ≡ true)
unlisted s i c =
    let at = at_from_Contains (ascending s) i c in
    let e = at.2 0 in
    let low = ascending_below s at.0 at.1 in
    (subst (λ n. n < s.capacity) e low, ap s.has (sym e) ∙ ascending_member s at.0 at.1)

-- a search of the list finds a number below the capacity exactly if the number is a member
pub ascending_has : (s : PlainSet) (i : ℕ) → i < s.capacity →
    list_any (λ k. k == i) (ascending s) ≡ s.has i
ascending_has s i h =
    elim (cases_Bool (s.has i)) [
      | inl here ↦
          let c = at_from_Contains (ascending s) i (listed s i h here) in
          let e = c.2 0 in
          list_any_at (λ k. k == i) (ascending s) c.0 0 c.1 (grind (arith, nat_tests)) ∙ sym here
      | inr gone ↦ elim (cases_Bool (list_any (λ k. k == i) (ascending s))) [
        | inl found ↦
            let a = Any-from_list_any (λ k. k == i) (ascending s) found in
            let same : a.1 ≡ i = eqb-true a.1 i a.4 in
            let is = (unlisted s a.1 (a.0, a.2, a.3)).1 in
            found ∙ sym is ∙ ap s.has same
        | inr none ↦ none ∙ sym gone
      ]
    ]

-- the increasing lists of two sets compare as equal exactly if the sets have the same members
pub equal_iff_same_members : (a b : PlainSet) → ((i : ℕ) → a.capacity ≤ i → a.has i ≡ false) →
    ((i : ℕ) → b.capacity ≤ i → b.has i ≡ false) →
    IsTrue (is_eq (list_cmp (ascending a) (ascending b))) ↔ AreSame a b
equal_iff_same_members a b none_a none_b = equal_iff_same a b (list_cmp (ascending a) (ascending b))
    (list_cmp-precedes a b none_a none_b)
