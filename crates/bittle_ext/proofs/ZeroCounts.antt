-- What it says of two sets that a count of both is 0.
use Rattle.std.proofs.Common.{◌≡◌, ℕ, Bool, true, false, ◌&&◌, inl, inr, refl, sym, ◌∙◌, arith}
use Rattle.std.proofs.Common.{◌↔◌}
use Rattle.std.proofs.lemmas.Bool.{cases_lt, true≢false}
use Rattle.bittle.specs.PlainSet.{PlainSet, size}
use Rattle.bittle.specs.SetOperations.{first_alone, just_one}
use Rattle.bittle.proofs.CallerSets.{size_none, size_zero}
use Rattle.bittle_ext.specs.Combined.{decided_set}
use Rattle.bittle_ext.proofs.KeptMembers.{Ends}

-- a number is not in the first set alone: if it is in the first set, it is in the second
pub not_alone : (a b : Bool) → (first_alone a b ≡ false) ↔ (a ≡ true → b ≡ true)
not_alone true true = (λ e h. refl, λ h. refl)
not_alone true false = (λ e h. sym e, λ h. sym (h refl))
not_alone false b = (λ e h. absurd (true≢false (sym h)), λ h. refl)

-- a number is not in both sets: if it is in the first set, it is not in the second
pub not_common : (a b : Bool) → ((a && b) ≡ false) ↔ (a ≡ true → b ≡ false)
not_common true b = (λ e h. e, λ h. h refl)
not_common false b = (λ e h. absurd (true≢false (sym h)), λ h. refl)

-- a number is not in just one set: it is in both sets or in neither
pub not_in_one : (a b : Bool) → (just_one a b ≡ false) ↔ (a ≡ b)
not_in_one true true = (λ e. refl, λ h. refl)
not_in_one true false = (λ e. e, λ h. h)
not_in_one false b = (sym, sym)

-- Let `decide` return false exactly if `Stands` holds. Then it counts no number of two sets exactly
-- if `Stands` holds for each number.
pub counts_none : {decide : Bool → Bool → Bool} {Stands : Bool → Bool → Type 0} →
    ((a b : Bool) → (decide a b ≡ false) ↔ Stands a b) → decide false false ≡ false →
    (s t : PlainSet) → Ends s → Ends t → (n : ℕ) → n ≡ size (decided_set decide s t) →
    (n ≡ 0) ↔ ((i : ℕ) → Stands (s.has i) (t.has i))
counts_none {decide = decide} says none s t past after n is =
    let u = decided_set decide s t in (
      λ e i. (says (s.has i) (t.has i)).0 (elim (cases_lt i u.capacity) [
        | inl l ↦ size_none u (sym is ∙ e) i (omega arith) l
        | inr g ↦ rw (past i (omega (arith, g)), after i (omega (arith, g))) none
      ]),
      λ h. is ∙ size_zero u (λ i p q. (says (s.has i) (t.has i)).1 (h i)),
    )
