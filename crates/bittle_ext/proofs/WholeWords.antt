-- Tests whether a set is empty or full.
use Rattle.std.proofs.Common.{◌≡◌, ◌↔◌, ◌==◌, ℕ, Bool, true, false, inl, inr, IsTrue, not, Option}
use Rattle.std.proofs.Common.{Some, None, is_some, refl, sym, ◌∙◌, arith}
use Rattle.std.proofs.lemmas.Bool.{cases_Bool, cases_eq, eq-eqb, ne_eqb, true≢false}
use Rattle.bittle.specs.PlainSet.{PlainSet, complement, size}
use Rattle.bittle.specs.Searches.{IsFirstIn, NoneIn}
use Rattle.bittle_bits.proofs.Sizes.{size-complement}
use Rattle.bittle.proofs.CallerSets.{size_none, size_zero}

-- a search from 0 on finds nothing exactly if there is no member
pub found_none : (s : PlainSet) (n : ℕ) (r : Option ℕ) (b : Bool) → IsFirstIn s 0 n r →
    is_some r ≡ not b → IsTrue b ↔ NoneIn s 0 n
found_none s n None true none is = (λ _. none, λ _. refl)
found_none s n None false none is = absurd (true≢false (sym is))
found_none s n (Some d) true first is = absurd (true≢false is)
found_none s n (Some d) false first is = (
  λ t. absurd (true≢false (sym t)),
  λ none. absurd (true≢false (sym first.2 ∙ none d first.0 first.1)),
)

-- a set has size 0 exactly if no number is a member
pub empty_just_where : (s : PlainSet) (b : Bool) → (IsTrue b ↔ NoneIn s 0 s.capacity) →
    b ≡ (size s == 0)
empty_just_where s b told =
    elim (cases_eq (size s) 0) [
      | inl z ↦ told.1 (size_none s z) ∙ sym (eq-eqb (size s) 0 z)
      | inr some ↦ elim (cases_Bool b) [
        | inl t ↦ absurd (some (size_zero s (told.0 t)))
        | inr f ↦ f ∙ sym (ne_eqb (size s) 0 some)
      ]
    ]

-- the size of a set is its capacity exactly if each number is a member
pub full_just_where : (s : PlainSet) (b : Bool) → (IsTrue b ↔ NoneIn (complement s) 0 s.capacity) →
    b ≡ (size s == s.capacity)
full_just_where s b told =
    let all = size-complement s in
    empty_just_where (complement s) b told ∙ elim (cases_eq (size s) s.capacity) [
      | inl e ↦ eq-eqb (size (complement s)) 0 (omega (arith, all, e))
          ∙ sym (eq-eqb (size s) s.capacity e)
      | inr some ↦ ne_eqb (size (complement s)) 0 (λ z. some (omega (arith, all, z)))
          ∙ sym (ne_eqb (size s) s.capacity some)
    ]
