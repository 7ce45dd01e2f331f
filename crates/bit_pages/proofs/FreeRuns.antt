-- The first run of free pages, and whether each page of a run is taken.
use Rattle.std.proofs.Common.{◌≡◌, ℕ, zero, suc, ◌+◌, ◌-◌, ◌<◌, ◌≤◌, Bool, true, false, not, nat_le}
use Rattle.std.proofs.Common.{Option, Some, None, inl, inr, refl, sym, ap, ◌∙◌, arith}
use Rattle.std.proofs.lemmas.Bool.{cases_eq, cases_lt, le-leb, leb-true, not-true, not-false}
use Rattle.std.proofs.lemmas.Bool.{and_parts, or_parts, true≢false}
use Rattle.std.specs.Prelude.{MatchOption}
use Rattle.bittle.specs.PlainSet.{PlainSet, complement, with_span}
use Rattle.bittle.proofs.CallerSets.{complement_within}
use Rattle.bittle_ext.specs.Runs.{IsFirstRun, IsRun}
use Rattle.bittle_ext.proofs.RunCounts.{run_is_unset}
use Rattle.bit_pages.specs.Pages.{has_some, first_free_run, is_run_taken, with_run}
use Rattle.bit_pages.proofs.LeastFree.{AllTakenFrom, IsFoundFrom, least_free_from-is}

module _ (test : ℕ → Bool) where
  -- if none of the n numbers passes, each fails the test
  pub none_pass : (from n : ℕ) → has_some test from n ≡ false → (k : ℕ) → from ≤ k →
      k < from + n → test k ≡ false
  unfolding has_some
  none_pass from zero e k p q = absurd (omega arith)
  none_pass from (suc n) e k p q =
      let parts = or_parts (test from) (has_some test (suc from) n) e in
      elim (cases_eq k from) [
        | inl here ↦ ap test here ∙ parts.0
        | inr apart ↦ none_pass (suc from) n parts.1 k (omega arith) (omega arith)
      ]

  -- if each of the n numbers fails the test, none passes
  pub pass_none : (from n : ℕ) → ((k : ℕ) → from ≤ k → k < from + n → test k ≡ false) →
      has_some test from n ≡ false
  unfolding has_some
  pass_none from zero none = refl
  pass_none from (suc n) none =
      let here = none from (omega arith) (omega arith) in
      let rest = pass_none (suc from) n (λ k p q. none k (omega arith) (omega arith)) in
      rw here rest

module _ (s : PlainSet) (n : ℕ) where
  abbrev taken_from : ℕ → Bool
  taken_from first = has_some s.has first n

  -- `first_free_run` finds the first run of free pages
  pub first_free_run-is : IsFirstRun (complement s) 0 n (first_free_run s n)
  first_free_run-is = by (first_free_run s n)
      (least_free_from-is taken_from 0 (suc s.capacity - n))
    where
      none_begins : (k : ℕ) → taken_from k ≡ true → IsRun (complement s) n k → ⊥
      none_begins k e run =
          true≢false (sym e ∙ pass_none s.has k n (run_is_unset s n k run))

      begins : (k : ℕ) → k + n ≤ s.capacity → taken_from k ≡ false → IsRun (complement s) n k
      begins k within e = (
        within,
        λ i p q. complement_within s i (omega arith)
            ∙ ap not (none_pass s.has k n e i p q),
      )

      by : (o : Option ℕ) → MatchOption o (AllTakenFrom taken_from 0 (suc s.capacity - n))
          (IsFoundFrom taken_from 0 (suc s.capacity - n)) → IsFirstRun (complement s) 0 n o
      by None all = λ k p run.
          let end : k + n ≤ s.capacity = run.0 in
          none_begins k (all k (omega arith) (omega arith)) run
      by (Some p) found = (
        omega arith,
        begins p (omega (arith, found.within)) found.is_free,
        λ k q l run. none_begins k (found.taken_below k (omega arith) l) run,
      )

-- there is just one first run
one_first : (t : PlainSet) (n : ℕ) (r q : Option ℕ) → IsFirstRun t 0 n r → IsFirstRun t 0 n q →
    r ≡ q
one_first t n None None a b = refl
one_first t n None (Some j) a b = absurd (a j (omega arith) b.1)
one_first t n (Some i) None a b = absurd (b i (omega arith) a.1)
one_first t n (Some i) (Some j) a b = elim (cases_lt i j) [
  | inl l ↦ absurd (b.2 i (omega arith) l a.1)
  | inr g ↦ elim (cases_lt j i) [
    | inl l ↦ absurd (a.2 j (omega arith) l b.1)
    | inr h ↦ let same : i ≡ j = omega arith in ap Some same
  ]
]

-- a search for the first run finds what the machine finds
pub first_run_is : (s : PlainSet) (n : ℕ) (r : Option ℕ) → IsFirstRun (complement s) 0 n r →
    r ≡ first_free_run s n
first_run_is s n r is = one_first (complement s) n r (first_free_run s n) is (first_free_run-is s n)

-- the state after the run was taken is that of the machine
pub run_state : (s t : PlainSet) (n : ℕ) (r : Option ℕ) → IsFirstRun (complement s) 0 n r →
    MatchOption r (t ≡ s) (λ first. t ≡ with_span s first (first + n)) →
    t ≡ with_run s n (first_free_run s n)
run_state s t n None is after = after ∙ ap (with_run s n) (first_run_is s n None is)
run_state s t n (Some first) is after =
    after ∙ ap (with_run s n) (first_run_is s n (Some first) is)

module _ (s : PlainSet) (first n : ℕ) where
  -- `is_run_taken` is true exactly if each page of the run is taken
  pub run_taken : is_run_taken s first n ≡ true → IsRun s n first
  run_taken e =
      let parts = and_parts (nat_le (first + n) s.capacity)
      (not (has_some (λ page. not (s.has page)) first n)) e in (
        leb-true (first + n) s.capacity parts.0,
        λ k p q. not-false (s.has k) (none_pass (λ page. not (s.has page)) first n
            (not-true (has_some (λ page. not (s.has page)) first n) parts.1) k p q),
      )

  pub taken_run : IsRun s n first → is_run_taken s first n ≡ true
  taken_run run =
      let within = le-leb (first + n) s.capacity run.0 in
      let none = pass_none (λ page. not (s.has page)) first n
      (λ k p q. ap not (run.1 k p q)) in rw (within, none) refl

  -- the answer of a call that tests the run, and the state after the call, are those of the machine
  pub run_answer : (b : Bool) → (b ≡ true → IsRun s n first) → (IsRun s n first → b ≡ true) →
      b ≡ is_run_taken s first n
  run_answer true is back = sym (taken_run (is refl))
  run_answer false is back = by (is_run_taken s first n) run_taken
    where
      by : (taken : Bool) → (taken ≡ true → IsRun s n first) → false ≡ taken
      by false run = refl
      by true run = back (run refl)
