-- How many members a row of elements has.
use Rattle.std.proofs.Common.{◌≡◌, ◌≢◌, ℕ, zero, suc, ◌+◌, ◌*◌, ◌<◌, ◌≤◌, Bool, true, false, ◌&&◌}
use Rattle.std.proofs.Common.{◌==◌, cond, inl, inr, refl, sym, ap, ◌∙◌, arith, List, [], ◌∷◌}
use Rattle.std.proofs.Common.{length, get_or, take, subst}
use Rattle.std.proofs.Math.Path.{fun_ext}
use Rattle.std.proofs.Math.Nat.{zero-mul, mul-zero}
use Rattle.std.specs.List.{sum_by}
use Rattle.std.proofs.lemmas.List.Sums.{sum_by-cons, sum_by_more_le}
use Rattle.std.proofs.lemmas.List.{get_or_default, take_all}
use Rattle.std.proofs.lemmas.Bool.{and_cases, and_parts, cases_eq, eq-eqb, eqb-true, eqb-false}
use Rattle.std.proofs.lemmas.Bool.{ne_eqb}
use Rattle.bittle_bits.specs.PlainSet.{PlainSet, count_below, size}
use Rattle.bittle_bits.specs.Rows.{at_element, row_has, row_set}
use Rattle.bittle_bits.proofs.RowSets.{elements_has_at, by_place}
use Rattle.bittle_bits.proofs.Counts.{count-same, count-le, count-add, count-none}
use Rattle.bittle_bits.proofs.Sizes.{size-le}

-- a row has as many members as its elements have together
pub size-elements : {X : Type 0} (c : ℕ) (f : X → ℕ → Bool) (xs : List X) →
    count_below (length xs * c) (row_has (length xs) c f xs)
    ≡ sum_by (λ x. count_below c (f x)) xs
unfolding at_element
size-elements c f [] = rw zero-mul (count-none _)
size-elements c f (x ∷ xs) =
    let n = length xs in
    let g = row_has (suc n) c f (x ∷ xs) in
    let first : count_below c g ≡ count_below c (f x) = count-same c _ _
    (λ k l. subst (λ t. g t ≡ f x k) (omega arith)
    (elements_has_at (suc n) c f (x ∷ xs) 0 k (omega arith) l)) in
    let rest : count_below (n * c) (λ k. g (c + k)) ≡ count_below (n * c) (row_has n c f xs) =
    count-same (n * c) _ _ (by_place n c (λ k. g (c + k) ≡ row_has n c f xs k)
    (λ q r a b. ap g (omega arith) ∙ elements_has_at (suc n) c f (x ∷ xs) (suc q) r
    (omega arith) b ∙ sym (elements_has_at n c f xs q r a b))) in
    let e : suc n * c ≡ c + n * c = omega arith in
    rw e (omega (
      arith,
      count-add c (n * c) g,
      first,
      rest,
      size-elements c f xs,
      sum_by-cons (λ y. count_below c (f y)) x xs,
    ))

sum_by-all : {X : Type 0} (g : X → ℕ) (v : ℕ) (xs : List X) →
    ((k : ℕ) (d : X) → k < length xs → g (get_or xs k d) ≡ v) → sum_by g xs ≡ length xs * v
sum_by-all g v [] h = omega arith
sum_by-all g v (x ∷ xs) h =
    let first = h 0 x (omega arith) in
    let rest = sum_by-all g v xs (λ k d l. h (suc k) d (omega arith)) in
    omega (arith, sum_by-cons g x xs, first, rest)

sum_by-most : {X : Type 0} (g : X → ℕ) (v : ℕ) (xs : List X) → ((x : X) → g x ≤ v) →
    sum_by g xs ≤ length xs * v
sum_by-most g v [] h = omega arith
sum_by-most g v (x ∷ xs) h = omega (arith, sum_by-cons g x xs, h x, sum_by-most g v xs h)

sum_by-short : {X : Type 0} (g : X → ℕ) (v : ℕ) (xs : List X) (i : ℕ) (d : X) →
    ((x : X) → g x ≤ v) → i < length xs → g (get_or xs i d) < v → sum_by g xs < length xs * v
sum_by-short g v [] i d h l b = absurd (omega arith)
sum_by-short g v (x ∷ xs) zero d h l b = omega (arith, sum_by-cons g x xs, sum_by-most g v xs h)
sum_by-short g v (x ∷ xs) (suc i) d h l b = omega
    (arith, sum_by-cons g x xs, h x, sum_by-short g v xs i d h (omega arith) b)

-- counts of a row of elements of one capacity
module _ {X : Type 0} (c : ℕ) (big : X → PlainSet) (xs : List X) (owned : (x : X) →
    (big x).capacity ≡ c) where
  each-is : (x : X) → size (big x) ≡ count_below c (big x).has
  each-is x = ap (λ k. count_below k (big x).has) (owned x)

  each-le : (x : X) → size (big x) ≤ c
  each-le x = rw (each-is x) (count-le c (big x).has)

  row_total : size (row_set (length xs) c big xs) ≡ sum_by (λ x. size (big x)) xs
  row_total = size-elements c (λ x. (big x).has) xs
      ∙ ap (λ f. sum_by f xs) (fun_ext λ x. sym (each-is x))

  -- the members of the elements so far, and of one more, fit the capacity of the row
  pub row_count_fits : (i total more : ℕ) (x : X) → more ≡ size (big x) → x ≡ get_or xs i x →
      i < length xs → total ≡ sum_by (λ x. size (big x)) (take i xs) → total + more ≤ length xs * c
  row_count_fits i total more x m at l t =
      let e : more ≡ size (big (get_or xs i x)) = m ∙ ap (λ y. size (big y)) at in
      omega (
        arith,
        e,
        t,
        sum_by_more_le (λ x. size (big x)) xs i x l,
        row_total,
        size-le (row_set (length xs) c big xs),
      )

  -- after the last element the count is the size of the row
  pub row_count_all : (i total : ℕ) → length xs ≤ i →
      total ≡ sum_by (λ x. size (big x)) (take i xs) →
      total ≡ size (row_set (length xs) c big xs)
  row_count_all i total l t = t ∙ ap (sum_by (λ x. size (big x))) (take_all i xs l) ∙ sym row_total

  -- if all elements have one size, the size of the row is that size times their number
  row_each : (v : ℕ) → ((k : ℕ) (d : X) → k < length xs → size (big (get_or xs k d)) ≡ v) →
      size (row_set (length xs) c big xs) ≡ length xs * v
  row_each v h = row_total ∙ sum_by-all (λ x. size (big x)) v xs h

  -- a row has a member if one of its elements has one
  row_some : (i : ℕ) (x : X) → x ≡ get_or xs i x → i < length xs → size (big x) ≢ 0 →
      size (row_set (length xs) c big xs) ≢ 0
  row_some i x at l n z =
      let e : size (big x) ≡ size (big (get_or xs i x)) = ap (λ y. size (big y)) at in
      n (omega (arith, e, sum_by_more_le (λ x. size (big x)) xs i x l, row_total))

  -- a row is not full if one of its elements is not full
  row_lacks : (i : ℕ) (x : X) → x ≡ get_or xs i x → i < length xs →
      size (big x) ≢ (big x).capacity → size (row_set (length xs) c big xs) ≢ length xs * c
  row_lacks i x at l n z =
      let e : size (big x) ≡ size (big (get_or xs i x)) = ap (λ y. size (big y)) at in
      let b : size (big (get_or xs i x)) < c = omega (arith, e, owned x, each-le (get_or xs i x)) in
      let t = sum_by-short (λ x. size (big x)) c xs i x each-le l b in
      omega (arith, row_total)

  -- if no element has a bit of the kind, the row has none
  pub row_without : (ones : Bool) →
      ((k : ℕ) (d : X) → k < length xs → size (big (get_or xs k d)) ≡ cond ones 0 c) →
      size (row_set (length xs) c big xs) ≡ cond ones 0 (length xs * c)
  row_without true h = row_each 0 h ∙ mul-zero _
  row_without false h = row_each c h

  -- if an element has a bit of the kind, the row has one
  pub row_with : (ones : Bool) (i : ℕ) (x : X) → x ≡ get_or xs i x → i < length xs →
      size (big x) ≢ cond ones 0 c →
      size (row_set (length xs) c big xs) ≢ cond ones 0 (length xs * c)
  row_with true i x at l n = row_some i x at l n
  row_with false i x at l n = row_lacks i x at l (λ e. n (e ∙ owned x))

  -- one more element is tested: e is whether it has no bit of the kind
  module _ (ones : Bool) (i : ℕ) (x : X) (at : x ≡ get_or xs i x) (l : i < length xs) (e : Bool)
      (is : e ≡ (size (big x) == cond ones 0 c)) where
    -- if e is true, the element has none
    pub one_without : e ≡ true → (d : X) → size (big (get_or xs i d)) ≡ cond ones 0 c
    one_without all d = ap (λ y. size (big y)) (get_or_default xs i d x l ∙ sym at)
        ∙ eqb-true _ _ (sym is ∙ all)

    -- if e is false, the row has one
    pub one_with : e ≡ false →
        (size (row_set (length xs) c big xs) == cond ones 0 (length xs * c)) ≡ false
    one_with some = ne_eqb _ _ (row_with ones i x at l (eqb-false _ _ (sym is ∙ some)))

    -- b is whether the elements before it, from `from` on, have no bit of the kind
    module _ (from : ℕ) (b : Bool) where
      -- if both are true, none of these elements has one
      pub part_without : (b ≡ true → (k : ℕ) (d : X) → from ≤ k → k < i →
          size (big (get_or xs k d)) ≡ cond ones 0 c) → (b && e) ≡ true → (k : ℕ) (d : X) →
          from ≤ k → k < i + 1 → size (big (get_or xs k d)) ≡ cond ones 0 c
      part_without done all k d since h =
          let parts = and_parts b e all in
          elim (cases_eq k i) [
            | inl s ↦ rw s (one_without parts.1 d)
            | inr n ↦ done parts.0 k d since (omega arith)
          ]

      -- if either is false, the row has one
      pub part_with : (b ≡ false →
          (size (row_set (length xs) c big xs) == cond ones 0 (length xs * c)) ≡ false) →
          (b && e) ≡ false →
          (size (row_set (length xs) c big xs) == cond ones 0 (length xs * c)) ≡ false
      part_with before some = elim (and_cases b e some) [ inl y ↦ before y | inr n ↦ one_with n ]

  -- the answer for all elements is the answer for the row
  pub whole_without : (ones b : Bool) → (b ≡ true → (k : ℕ) (d : X) → 0 ≤ k → k < length xs →
      size (big (get_or xs k d)) ≡ cond ones 0 c) → (b ≡ false →
      (size (row_set (length xs) c big xs) == cond ones 0 (length xs * c)) ≡ false) →
      b ≡ (size (row_set (length xs) c big xs) == cond ones 0 (length xs * c))
  whole_without ones true all some = sym (eq-eqb _ _ (row_without ones
      (λ k d h. all refl k d (omega arith) h)))
  whole_without ones false all some = sym (some refl)
