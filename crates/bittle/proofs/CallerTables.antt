-- Facts that callers cite on a table after a write to one place.
use Rattle.std.proofs.Common.{◌≡◌, ◌≢◌, ℕ, zero, suc, ◌<◌, cond, ◌==◌, Some, List, [], ◌∷◌, length}
use Rattle.std.proofs.Common.{set, inl, inr, refl, ap, ◌∙◌, arith}
use Rattle.std.specs.Prelude.{slice_get}
use Rattle.std.proofs.lemmas.Bool.{cases_eq, eq-eqb, ne_eqb}

-- the place that is written has the new value
pub slice_get_set_same : {X : Type 0} (xs : List X) (i : ℕ) (x : X) → i < length xs →
    slice_get (set xs i x) i ≡ Some x
slice_get_set_same [] i x h = absurd (omega (arith, h))
slice_get_set_same (y ∷ ys) zero x h = refl
slice_get_set_same (y ∷ ys) (suc i) x h = slice_get_set_same ys i x (omega (arith, h))

-- each other place keeps its value
pub slice_get_set_other : {X : Type 0} (xs : List X) (i j : ℕ) (x : X) → j ≢ i →
    slice_get (set xs i x) j ≡ slice_get xs j
slice_get_set_other [] i j x n = refl
slice_get_set_other (y ∷ ys) zero zero x n = absurd (n refl)
slice_get_set_other (y ∷ ys) zero (suc j) x n = refl
slice_get_set_other (y ∷ ys) (suc i) zero x n = refl
slice_get_set_other (y ∷ ys) (suc i) (suc j) x n =
    slice_get_set_other ys i j x (λ e. n (ap suc e))

-- the value at any place after the write
pub slice_get_set : {X : Type 0} (xs : List X) (i : ℕ) (x : X) → i < length xs → (j : ℕ) →
    slice_get (set xs i x) j ≡ cond (j == i) (Some x) (slice_get xs j)
slice_get_set xs i x h j = elim (cases_eq j i) [
  | inl same ↦
      let is = eq-eqb j i same in
      rw is (ap (slice_get (set xs i x)) same ∙ slice_get_set_same xs i x h)
  | inr apart ↦ let no = ne_eqb j i apart in rw no (slice_get_set_other xs i j x apart)
]
