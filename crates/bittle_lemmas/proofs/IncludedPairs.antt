-- A set that includes another one, after the same change of both.
use Rattle.std.proofs.Common.{◌≡◌, ℕ, ◌==◌, ◌<◌, true, ◌||◌, inl, inr, sym, ap, ◌∙◌, arith}
use Rattle.std.proofs.Math.Bool.{or-true}
use Rattle.std.proofs.lemmas.Bool.{cases_Bool}
use Rattle.bittle.specs.PlainSet.{PlainSet, with_index}
use Rattle.bittle_ext.specs.ReservedSpans.{includes}
use Rattle.bittle_ext.proofs.CallerMembers.{has_with_index}
use Rattle.bittle_ext.proofs.IncludedSets.{each_if_includes, includes_if_each}

-- the first set still includes the second after an index was set in both
pub includes_after_both : (s t r q : PlainSet) (i : ℕ) → t ≡ with_index s i → q ≡ with_index r i →
    i < s.capacity → i < r.capacity → includes s r ≡ true → includes t q ≡ true
includes_after_both s t r q i is also below within kept = includes_if_each t q (λ k up has.
    ap (λ u. u.has k) is ∙ has_with_index s i k below
    ∙ either k (sym (ap (λ u. u.has k) also ∙ has_with_index r i k within) ∙ has)
    (omega (arith, up, ap (λ u. u.capacity) also)))
  where
    either : (k : ℕ) → ((k == i) || r.has k) ≡ true → k < r.capacity →
        ((k == i) || s.has k) ≡ true
    either k has low = elim (cases_Bool (k == i)) [
      | inl same ↦ ap (λ b. b || s.has k) same
      | inr apart ↦
          ap (λ b. (k == i) || b)
          (each_if_includes s r kept k low (sym (ap (λ b. b || r.has k) apart) ∙ has))
          ∙ or-true (k == i)
    ]
