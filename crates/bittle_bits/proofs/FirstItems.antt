-- The first item of the increasing list, and what lies past its last item.
use Rattle.std.proofs.Common.{◌≡◌, ℕ, zero, suc, ◌+◌, ◌<◌, ◌≤◌, ◌⊎◌, Bool, true, false, cond, ◌∷◌}
use Rattle.std.proofs.Common.{sym, ◌∙◌, ap, inl, inr, arith}
use Rattle.std.proofs.lemmas.Bool.{cases_eq, cases_Bool}
use Rattle.bittle_bits.specs.PlainSet.{ascending_from}
use Rattle.bittle_bits.proofs.AscendingLists.{ascending-yes, ascending-no, ascending_from-none}

-- no number of a range passes the test
abbrev pub NonePasses : (ℕ → Bool) → ℕ → ℕ → Type 0
NonePasses s from to = (i : ℕ) → from ≤ i → i < to → s i ≡ false

-- the list of a range begins with the least number that passes, and goes on past it
pub ascending_from-least : (s : ℕ → Bool) (from n v m : ℕ) → from ≤ v → from + n ≡ suc v + m →
    s v ≡ true → NonePasses s from v → ascending_from s from n ≡ v ∷ ascending_from s (suc v) m
ascending_from-least s from zero v m p e t h = absurd (omega arith)
ascending_from-least s from (suc n) v m p e t h =
    by (λ l. ascending_from-least s (suc from) n v m (omega arith) (omega arith) t
    (λ i a b. h i (omega arith) b)) (cases_eq from v)
  where
    by : (from < v → ascending_from s (suc from) n ≡ v ∷ ascending_from s (suc v) m) →
        (from ≡ v) ⊎ (from ≡ v → ⊥) → ascending_from s from (suc n) ≡ v ∷ ascending_from s (suc v) m
    by k (inl q) =
        let r : n ≡ m = omega arith in
        ascending-yes s from n (ap s q ∙ t) ∙ (λ i. q i ∷ ascending_from s (suc (q i)) (r i))
    by k (inr q) =
        let l : from < v = omega arith in
        ascending-no s from n (h from (omega arith) l) ∙ k l

-- v is the least number of a range that passes the test
abbrev pub IsLeastPassing : (ℕ → Bool) → ℕ → ℕ → ℕ → Type 0
IsLeastPassing s from to v = (from ≤ v) × (v < to) × (s v ≡ true) × NonePasses s from v

-- of n numbers, none passes the test, or there is a least one that passes
pub least_or_none : (s : ℕ → Bool) (from n : ℕ) →
    NonePasses s from (from + n) ⊎ ((v : ℕ) × IsLeastPassing s from (from + n) v)
least_or_none s from zero = inl (λ i p q. absurd (omega arith))
least_or_none s from (suc n) = by (cases_Bool (s from)) (least_or_none s (suc from) n)
  where
    grow : s from ≡ false → (to : ℕ) → NonePasses s (suc from) to → NonePasses s from to
    grow h to g i p q = at (cases_eq from i)
      where
        at : (from ≡ i) ⊎ (from ≡ i → ⊥) → s i ≡ false
        at (inl e) = ap s (sym e) ∙ h
        at (inr e) = g i (omega arith) q

    by : (s from ≡ true) ⊎ (s from ≡ false) →
        NonePasses s (suc from) (suc from + n)
        ⊎ ((v : ℕ) × IsLeastPassing s (suc from) (suc from + n) v) →
        NonePasses s from (from + suc n) ⊎ ((v : ℕ) × IsLeastPassing s from (from + suc n) v)
    by (inl t) r = inr (from, (omega arith, omega arith, t, λ i p q. absurd (omega arith)))
    by (inr f) (inl r) = inl (λ i p q. grow f (suc from + n) r i p (omega arith))
    by (inr f) (inr r) = inr (
      r.0,
      (
        omega (arith, r.1.0),
        omega (arith, r.1.1),
        r.1.2,
        grow f r.0 r.1.3,
      ),
    )

-- past the last number that passes, the list has no further item
pub ascending_from-past : (s : ℕ → Bool) (from n r : ℕ) → n ≤ r →
    ((i : ℕ) → from + n ≤ i → s i ≡ false) → ascending_from s from r ≡ ascending_from s from n
unfolding ascending_from
ascending_from-past s from zero r p h = ascending_from-none s from r (λ i a b. h i (omega arith))
ascending_from-past s from (suc n) zero p h = absurd (omega arith)
ascending_from-past s from (suc n) (suc r) p h =
    let e = ascending_from-past s (suc from) n r (omega arith) (λ i a. h i (omega arith)) in
    λ i. cond (s from) (from ∷ e i) (e i)
