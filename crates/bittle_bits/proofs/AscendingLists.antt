-- The increasing list of the members: its ends, the list without one member, and its length.
use Rattle.std.proofs.Common.{◌≡◌, ◌≢◌, ℕ, zero, suc, ◌+◌, ◌-◌, ◌<◌, ◌≤◌, Bool, true, false, not}
use Rattle.std.proofs.Common.{◌&&◌, ◌==◌, cond, List, [], ◌∷◌, ◌++◌, length, map, get_or}
use Rattle.std.proofs.Common.{length-append, ◌⊎◌, inl, inr, refl, sym, ap, ◌∙◌, arith}
use Rattle.std.proofs.Math.Nat.{mod-eq_of_lt}
use Rattle.std.proofs.lemmas.Bool.{eq-eqb, eqb-true, ne_eqb, true≢false, cases_Bool, cases_eq}
use Rattle.std.proofs.lemmas.List.{append-nil, nil_from_length}
use Rattle.bittle_bits.specs.Ends.{with_end, IsEndMember}
use Rattle.bittle_bits.specs.PlainSet.{PlainSet, without_index, has_without, count_below, size}
use Rattle.bittle_bits.specs.PlainSet.{ascending_from, ascending}
use Rattle.bittle_bits.specs.Walk.{AreBelow}
use Rattle.bittle_bits.proofs.PlainSets.{has_without-in}
use Rattle.bittle_bits.proofs.Sizes.{size-le}

-- if the first number of the range passes, the list begins with it
pub ascending-yes : (p : ℕ → Bool) (from n : ℕ) → p from ≡ true →
    ascending_from p from (suc n) ≡ from ∷ ascending_from p (suc from) n
unfolding ascending_from
ascending-yes p from n h = rw h refl

-- if the first number of the range fails, the list is the list of the numbers after it
pub ascending-no : (p : ℕ → Bool) (from n : ℕ) → p from ≡ false →
    ascending_from p from (suc n) ≡ ascending_from p (suc from) n
unfolding ascending_from
ascending-no p from n h = rw h refl

-- the list over no numbers is empty
pub ascending_from-zero : (p : ℕ → Bool) (from : ℕ) → ascending_from p from 0 ≡ []
unfolding ascending_from
ascending_from-zero p from = refl

-- the list over two adjacent ranges is the two lists, one after the other
pub ascending_from-add : (p : ℕ → Bool) (from a b c mid : ℕ) → c ≡ a + b → mid ≡ from + a →
    ascending_from p from c ≡ ascending_from p from a ++ ascending_from p mid b
unfolding ascending_from
ascending_from-add p from zero b c mid e f =
    let all : c ≡ b = omega arith in
    let start : mid ≡ from = omega arith in
    rw (all, start) refl
ascending_from-add p from (suc a) b zero mid e f = absurd (omega arith)
ascending_from-add p from (suc a) b (suc c) mid e f =
    let rest = ascending_from-add p (suc from) a b c mid (omega arith) (omega arith) in
    elim (p from) as (λ v. cond v (from ∷ ascending_from p (suc from) c)
    (ascending_from p (suc from) c) ≡ cond v (from ∷ ascending_from p (suc from) a)
    (ascending_from p (suc from) a) ++ ascending_from p mid b)
    [ true ↦ ap (λ xs. from ∷ xs) rest | false ↦ rest ]

-- tests that agree on the range have the same list
pub ascending_from-same : (p q : ℕ → Bool) (from n : ℕ) →
    ((k : ℕ) → from ≤ k → k < from + n → p k ≡ q k) →
    ascending_from p from n ≡ ascending_from q from n
unfolding ascending_from
ascending_from-same p q from zero h = refl
ascending_from-same p q from (suc n) h =
    rw (
      h from (omega arith) (omega arith),
      ascending_from-same p q (suc from) n
          (λ k lo hi. h k (omega arith) (omega arith)),
    ) refl

late_head : (p : ℕ → Bool) (from n k : ℕ) (rest : List ℕ) → k < from →
    ascending_from p from n ≡ k ∷ rest → ⊥
late_head p from zero k rest h e = let none = ascending_from-zero p from in cc
late_head p from (suc n) k rest h e =
    elim (cases_Bool (p from)) [
      | inl yes_here ↦ let split = ascending-yes p from n yes_here in let same : from ≡ k = cc in
          absurd (omega (arith, same))
      | inr not_here ↦ late_head p (suc from) n k rest (omega arith)
          (sym (ascending-no p from n not_here) ∙ e)
    ]

-- tests that have the same list over the range agree on it
pub ascending_from-agree : (p q : ℕ → Bool) (from n : ℕ) →
    ascending_from p from n ≡ ascending_from q from n → (k : ℕ) → from ≤ k → k < from + n →
    p k ≡ q k
ascending_from-agree p q from zero e k lo hi = absurd (omega arith)
ascending_from-agree p q from (suc n) e k lo hi = by (ascending_from-agree p q (suc from) n)
    (cases_Bool (p from)) (cases_Bool (q from))
  where
    on : (ascending_from p (suc from) n ≡ ascending_from q (suc from) n → (k : ℕ) → suc from ≤ k →
        k < suc from + n → p k ≡ q k) → ascending_from p (suc from) n
        ≡ ascending_from q (suc from) n → p from ≡ q from → p k ≡ q k
    on later rest here =
        elim (cases_eq k from) [
          | inl same ↦ ap p same ∙ here ∙ ap q (sym same)
          | inr other ↦ later rest k (omega (arith, other)) (omega arith)
        ]

    by : (ascending_from p (suc from) n ≡ ascending_from q (suc from) n → (k : ℕ) → suc from ≤ k →
        k < suc from + n → p k ≡ q k) → (p from ≡ true) ⊎ (p from ≡ false) →
        (q from ≡ true) ⊎ (q from ≡ false) → p k ≡ q k
    by later (inl a) (inl b) = let x = ascending-yes p from n a in
        let y = ascending-yes q from n b in on later (cc) (a ∙ sym b)
    by later (inl a) (inr b) = absurd (late_head q (suc from) n from (ascending_from p (suc from) n)
        (omega arith) (sym (ascending-no q from n b) ∙ sym e ∙ ascending-yes p from n a))
    by later (inr a) (inl b) = absurd (late_head p (suc from) n from (ascending_from q (suc from) n)
        (omega arith) (sym (ascending-no p from n a) ∙ e ∙ ascending-yes q from n b))
    by later (inr a) (inr b) = on later (sym (ascending-no p from n a) ∙ e
        ∙ ascending-no q from n b) (a ∙ sym b)

-- a list moved by a base is the list of the test moved by that base
pub ascending_from-moved : (p q : ℕ → Bool) (base from start n : ℕ) → start ≡ base + from →
    ((k : ℕ) → from ≤ k → k < from + n → q (base + k) ≡ p k) →
    map (λ k. base + k) (ascending_from p from n) ≡ ascending_from q start n
unfolding ascending_from
ascending_from-moved p q base from start zero e h = refl
ascending_from-moved p q base from start (suc n) e h =
    let rest = ascending_from-moved p q base (suc from) (suc start) n (omega arith)
    (λ k lo hi. h k (omega arith) (omega arith)) in
    let same : q start ≡ p from = ap q e ∙ h from (omega arith) (omega arith) in
    rw same (elim (p from) as (λ v. map (λ k. base + k)
    (cond v (from ∷ ascending_from p (suc from) n) (ascending_from p (suc from) n))
    ≡ cond v (start ∷ ascending_from q (suc start) n) (ascending_from q (suc start) n)) [
      | true ↦ ap (λ xs. (base + from) ∷ xs) rest ∙ ap (λ k. k ∷ ascending_from q (suc start) n)
          (sym e)
      | false ↦ rest
    ])

-- the list is empty if nothing in the range passes
pub ascending_from-none : (p : ℕ → Bool) (from n : ℕ) →
    ((k : ℕ) → from ≤ k → k < from + n → p k ≡ false) → ascending_from p from n ≡ []
unfolding ascending_from
ascending_from-none p from zero h = refl
ascending_from-none p from (suc n) h =
    ascending-no p from n (h from (omega arith) (omega arith)) ∙ ascending_from-none p (suc from) n
    (λ k lo hi. h k (omega arith) (omega arith))

one_more : (p : ℕ → Bool) (n : ℕ) → length (ascending_from p n 1) ≡ cond (p n) 1 0
unfolding ascending_from
one_more p n = elim (p n) as (λ v. length (cond v (n ∷ []) []) ≡ cond v 1 0)
    [ true ↦ refl | false ↦ refl ]

-- the list has as many items as numbers of the range pass
pub ascending_from-length : (p : ℕ → Bool) (n : ℕ) → length (ascending_from p 0 n) ≡ count_below n p
unfolding count_below
ascending_from-length p zero = ap length (ascending_from-zero p 0)
ascending_from-length p (suc n) =
    ap length (ascending_from-add p 0 n 1 (suc n) n (omega arith) (omega arith))
    ∙ length-append (ascending_from p 0 n) (ascending_from p n 1)
    ∙ ap (λ k. k + length (ascending_from p n 1)) (ascending_from-length p n)
    ∙ ap (λ k. count_below n p + k) (one_more p n)

-- the list has as many items as the set has members
pub ascending-length : (s : PlainSet) → length (ascending s) ≡ size s
ascending-length s = ascending_from-length s.has s.capacity

-- the list of a set of size 0 is empty
pub ascending-empty : (s : PlainSet) → true ≡ (size s == 0) → ascending s ≡ []
ascending-empty s none =
    nil_from_length _ (ascending-length s ∙ eqb-true (size s) 0 (sym none))

-- the list of a set whose size is not 0 is not empty
pub ascending-some : (s : PlainSet) → false ≡ (size s == 0) → ascending s ≢ []
ascending-some s some none =
    true≢false (sym (eq-eqb (size s) 0 (sym (ascending-length s) ∙ ap length none)) ∙ sym some)

-- the list has at most as many items as the capacity
pub ascending-few : (s : PlainSet) → length (ascending s) ≤ s.capacity
ascending-few s = omega (arith, ascending-length s, size-le s)

-- each item is below the end of the range
ascending_from-below : (p : ℕ → Bool) (from n k : ℕ) → k < length (ascending_from p from n) →
    get_or (ascending_from p from n) k 0 < from + n
unfolding ascending_from
ascending_from-below p from zero k h = absurd (omega arith)
ascending_from-below p from (suc n) k h = by (p from) (ascending_from-below p (suc from) n) k h
  where
    by : (b : Bool) → ((k : ℕ) → k < length (ascending_from p (suc from) n) →
        get_or (ascending_from p (suc from) n) k 0 < suc from + n) → (k : ℕ) →
        k < length (cond b (from ∷ ascending_from p (suc from) n) (ascending_from p (suc from) n)) →
        get_or (cond b (from ∷ ascending_from p (suc from) n) (ascending_from p (suc from) n)) k 0 <
        from + suc n
    by true later zero h = omega arith
    by true later (suc k) h = let b = later k (omega arith) in omega (arith, b)
    by false later k h = let b = later k h in omega (arith, b)

-- each item is below the capacity, and there are at most as many items as the capacity
pub ascending-below : (s : PlainSet) → AreBelow s.capacity (ascending s)
ascending-below s = (
  ascending-few s,
  λ k h. let b = ascending_from-below s.has 0 s.capacity k h in
      omega (arith, b),
)

-- the same for a list that is equal to the list of the members
pub are_below : (s : PlainSet) (items : List ℕ) → items ≡ ascending s → AreBelow s.capacity items
are_below s items e = rw e (ascending-below s)

-- the list is empty if there are no members
pub ascending-none : (s : PlainSet) → ((k : ℕ) → k < s.capacity → s.has k ≡ false) →
    ascending s ≡ []
ascending-none s h = ascending_from-none s.has 0 s.capacity (λ k lo hi. h k (omega arith))

-- one member of a set
module _ (s : PlainSet) (r : ℕ) (inside : r < s.capacity) (here : s.has r ≡ true) where
  -- the list is the members before r, then r, then the members after r
  pub ascending-at : ascending s ≡ (ascending_from s.has 0 r ++ r ∷ [])
      ++ ascending_from s.has (suc r) (s.capacity - suc r)
  ascending-at =
      ascending_from-add s.has 0 (suc r) (s.capacity - suc r) s.capacity (suc r) (omega arith)
      (omega arith)
      ∙ ap (λ xs. xs ++ ascending_from s.has (suc r) (s.capacity - suc r)) (
      ascending_from-add s.has 0 r 1 (suc r) r (omega arith) (omega arith)
      ∙ ap (λ xs. ascending_from s.has 0 r ++ xs)
      (ascending-yes s.has r 0 here ∙ ap (λ xs. r ∷ xs) (ascending_from-zero s.has (suc r))))

  others : (k : ℕ) → (k ≡ r → ⊥) → has_without s r k ≡ s.has k
  others k n =
      ap (λ p. p k) (has_without-in s s.capacity r refl (omega arith))
      ∙ ap (λ t. not (k == t) && s.has k) (mod-eq_of_lt inside)
      ∙ ap (λ b. not b && s.has k) (ne_eqb k r n)

  gone : has_without s r r ≡ false
  gone =
      ap (λ p. p r) (has_without-in s s.capacity r refl (omega arith))
      ∙ ap (λ t. not (r == t) && s.has r) (mod-eq_of_lt inside)
      ∙ ap (λ b. not b && s.has r) (eq-eqb r r refl)

  -- without r, the list is the members before r, then the members after r
  pub ascending-without : ascending (without_index s r) ≡ ascending_from s.has 0 r
      ++ ascending_from s.has (suc r) (s.capacity - suc r)
  ascending-without =
      ascending_from-add (has_without s r) 0 (suc r) (s.capacity - suc r) s.capacity (suc r)
      (omega arith) (omega arith)
      ∙ ap (λ xs. xs ++ ascending_from (has_without s r) (suc r) (s.capacity - suc r)) (
      ascending_from-add (has_without s r) 0 r 1 (suc r) r (omega arith) (omega arith)
      ∙ ap (λ xs. ascending_from (has_without s r) 0 r ++ xs)
      (ascending-no (has_without s r) r 0 gone ∙ ascending_from-zero (has_without s r) (suc r)))
      ∙ ap (λ xs. (xs ++ []) ++ ascending_from (has_without s r) (suc r) (s.capacity - suc r))
      (ascending_from-same _ _ 0 r (λ k lo hi. others k (λ e. absurd (omega arith))))
      ∙ ap (λ xs. xs ++ ascending_from (has_without s r) (suc r) (s.capacity - suc r))
      (append-nil (ascending_from s.has 0 r))
      ∙ ap (λ xs. ascending_from s.has 0 r ++ xs)
      (ascending_from-same _ _ (suc r) (s.capacity - suc r)
      (λ k lo hi. others k (λ e. absurd (omega arith))))

-- if no member lies at an end, there is no member
pub end-none : (front : Bool) (s : PlainSet) (r : ℕ) → IsEndMember front s r → s.capacity ≤ r →
    ascending s ≡ []
end-none true s r least past = ascending-none s (λ k h. least.none_below k (omega arith))
end-none false s r greatest past = ascending-none s
    (λ k h. ap s.has (omega arith) ∙ greatest.none_above (s.capacity - 1 - k) (omega arith))

-- the member at an end is the item at that end; the set without it lists the other items
pub end-taken : (front : Bool) (s t : PlainSet) (r v : ℕ) → IsEndMember front s r →
    r < s.capacity → v ≡ cond front r (s.capacity - 1 - r) → t ≡ without_index s v →
    ascending s ≡ with_end front v (ascending t)
end-taken true s t r v least inside is left =
    let none = ascending_from-none s.has 0 v (λ k lo hi. least.none_below k (omega arith)) in
    let low : v < s.capacity = omega arith in
    let here : s.has v ≡ true = ap s.has is ∙ least.is_member inside in
    ascending-at s v low here ∙ rw (left, ascending-without s v low here, none) refl
end-taken false s t r v greatest inside is left =
    let none : ascending_from s.has (suc v) (s.capacity - suc v) ≡ [] =
    ascending_from-none s.has (suc v) (s.capacity - suc v)
    (λ k lo hi. ap s.has (omega arith) ∙ greatest.none_above (s.capacity - 1 - k) (omega arith))
    in
    let low : v < s.capacity = omega arith in
    let here : s.has v ≡ true = ap s.has is ∙ greatest.is_member inside in
    ascending-at s v low here ∙ rw (left, ascending-without s v low here, none)
    (append-nil _ ∙ sym (ap (λ xs. xs ++ v ∷ []) (append-nil _)))
