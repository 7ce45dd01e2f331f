-- How many numbers below a bound pass a test, compared with another test.
use Rattle.std.proofs.Common.{◌≡◌, ℕ, zero, suc, ◌+◌, ◌<◌, ◌≤◌, ◌⊎◌, Bool, true, false, cond, ◌||◌}
use Rattle.std.proofs.Common.{◌==◌, nat_lt, List, ◌∷◌, inl, inr, refl, sym, ap, ◌∙◌, arith}
use Rattle.std.specs.List.{count_by}
use Rattle.std.proofs.lemmas.Bool.{cases_eq, cases_Bool, cases_lt, lt-ltb, ne_eqb}
use Rattle.std.proofs.lemmas.List.Sums.{sum_by-cons}
use Rattle.bittle.specs.PlainSet.{count_below}
use Rattle.bittle.proofs.CallerChanges.{size_added}

bit_fewer : (a b : Bool) → (a ≡ true → b ≡ true) → cond a 1 0 ≤ cond b 1 0
bit_fewer false false h = omega arith
bit_fewer false true h = omega arith
bit_fewer true b h = rw (h refl) (omega arith)

-- if each number that passes one test passes the other, the first test counts no more than the
-- other
pub counts_fewer : (c : ℕ) (s t : ℕ → Bool) → ((k : ℕ) → k < c → s k ≡ true → t k ≡ true) →
    count_below c s ≤ count_below c t
unfolding count_below
counts_fewer zero s t h = omega arith
counts_fewer (suc c) s t h =
    let rest = counts_fewer c s t (λ k l. h k (omega arith)) in
    let last = bit_fewer (s c) (t c) (h c (omega arith)) in
    omega (arith, rest, last)

-- the first test counts fewer if, besides, some number passes only the other test
pub counts_less : (c i : ℕ) (s t : ℕ → Bool) → i < c → s i ≡ false → t i ≡ true →
    ((k : ℕ) → k < c → s k ≡ true → t k ≡ true) → count_below c s + 1 ≤ count_below c t
unfolding count_below
counts_less zero i s t l none some h = absurd (omega arith)
counts_less (suc c) i s t l none some h =
    elim (cases_eq c i) [
      | inl e ↦
          let rest = counts_fewer c s t (λ k m. h k (omega arith)) in
          let was : s c ≡ false = ap s e ∙ none in
          let is : t c ≡ true = ap t e ∙ some in
          rw (was, is) (omega (arith, rest))
      | inr n ↦
          let rest = counts_less c i s t (omega arith) none some (λ k m. h k (omega arith)) in
          let last = bit_fewer (s c) (t c) (h c (omega arith)) in
          omega (arith, rest, last)
    ]

-- one more number adds at most one to the count, and nothing if it is not below the bound
pub counts_with : (c i : ℕ) (s : ℕ → Bool) →
    count_below c (λ k. (k == i) || s k) ≤ count_below c s + cond (nat_lt i c) 1 0
counts_with c i s = by (cases_lt i c) (cases_Bool (s i))
  where
    was : (k : ℕ) → ((k ≡ i) → s i ≡ true) → ((k == i) || s k) ≡ true → s k ≡ true
    was k same some = elim (cases_eq k i) [
      | inl e ↦ ap s e ∙ same e
      | inr n ↦ sym (ap (λ b. b || s k) (ne_eqb k i n)) ∙ some
    ]

    by : (i < c) ⊎ (c ≤ i) → (s i ≡ true) ⊎ (s i ≡ false) →
        count_below c (λ k. (k == i) || s k) ≤ count_below c s + cond (nat_lt i c) 1 0
    by (inl l) (inr none) =
        let is = lt-ltb i c l in
        rw is (omega (arith, size_added (record { capacity = c; has = s }) i l none))
    by (inr g) _ =
        omega (
          arith,
          counts_fewer c (λ k. (k == i) || s k) s
              (λ k l. was k (λ e. absurd (omega arith))),
        )
    by (inl l) (inl some) =
        omega (arith, counts_fewer c (λ k. (k == i) || s k) s (λ k m. was k (λ e. some)))

-- the count of a list with one more item
pub counts_item : {X : Type 0} (p : X → Bool) (x : X) (xs : List X) →
    count_by p (x ∷ xs) ≡ cond (p x) 1 0 + count_by p xs
counts_item p x xs = sum_by-cons (λ y. cond (p y) 1 0) x xs
