-- The members that pass a test are those that `retain` keeps, if its closure returns the test's
-- result.
use Rattle.std.proofs.Common.{◌≡◌, ◌⊎◌, ℕ, zero, suc, ◌≤◌, Bool, true, false, ◌&&◌, ◌∷◌, filter}
use Rattle.std.proofs.Common.{inl, inr, refl, sym, ap, ◌∙◌, arith}
use Rattle.std.specs.List.Retain.{IsFiltered}
use Rattle.std.proofs.lemmas.Bool.{cases_Bool, cases_lt}
use Rattle.std.proofs.lemmas.Fn.{filter_same}
use Rattle.bittle.specs.PlainSet.{PlainSet, ascending, ascending_from}
use Rattle.bittle_bits.proofs.AscendingLists.{ascending_from-zero, ascending_from-agree}
use Rattle.bittle_bits.proofs.AscendingLists.{ascending-yes, ascending-no}
use Rattle.bittle_ext.specs.Changes.{AnswersBy, those_passing, has_passing}

-- the members that pass a test, listed
filter_ascending : (p test q : ℕ → Bool) → ((k : ℕ) → q k ≡ (p k && test k)) → (from n : ℕ) →
    filter test (ascending_from p from n) ≡ ascending_from q from n
filter_ascending p test q is from zero =
    ap (filter test) (ascending_from-zero p from) ∙ sym (ascending_from-zero q from)
filter_ascending p test q is from (suc n) =
    by (cases_Bool (p from)) (cases_Bool (test from)) (filter_ascending p test q is (suc from) n)
  where
    by : (p from ≡ true) ⊎ (p from ≡ false) → (test from ≡ true) ⊎ (test from ≡ false) →
        filter test (ascending_from p (suc from) n) ≡ ascending_from q (suc from) n →
        filter test (ascending_from p from (suc n)) ≡ ascending_from q from (suc n)
    by (inr a) t rest = ap (filter test) (ascending-no p from n a) ∙ rest
        ∙ sym (ascending-no q from n (rw (is from, a) refl))
    by (inl a) (inl b) rest = ap (filter test) (ascending-yes p from n a)
        ∙ rw b (ap (λ xs. from ∷ xs) rest)
        ∙ sym (ascending-yes q from n (rw (is from, a) b))
    by (inl a) (inr b) rest = ap (filter test) (ascending-yes p from n a)
        ∙ rw b rest
        ∙ sym (ascending-no q from n (rw (is from, a) b))

-- if a closure returns the result of a test, the members that it keeps are those that pass the test
pub kept_by_test : {F : Type 0} (step : F → ℕ → Bool → F → Type 0) (keep : F) (old new : PlainSet) →
    ((k : ℕ) → old.capacity ≤ k → old.has k ≡ false) →
    ((k : ℕ) → new.capacity ≤ k → new.has k ≡ false) → new.capacity ≡ old.capacity →
    IsFiltered step keep (ascending old) (ascending new) → (test : ℕ → Bool) →
    AnswersBy step keep test → new ≡ those_passing test old
unfolding has_passing
kept_by_test step keep old new past_old past_new one filtered test answers =
    let listed = filter_same step test keep answers (ascending old) (ascending new) filtered
    ∙ filter_ascending old.has test (has_passing test old) (λ k. refl) 0 old.capacity in
    let agree = ascending_from-agree new.has (has_passing test old) 0 old.capacity
    (ap (ascending_from new.has 0) (sym one) ∙ listed) in
    let each : (k : ℕ) → new.has k ≡ has_passing test old k =
    λ k. elim (cases_lt k old.capacity) [
      | inl l ↦ agree k (omega arith) (omega arith)
      | inr g ↦ past_new k (omega (arith, one)) ∙ sym (ap (λ b. b && test k) (past_old k g))
    ] in
    λ j. record { capacity = one j; has = λ k. each k j }
