-- What one request does: which pages it hands out, which come back, and how many.
use Rattle.std.proofs.Common.{◌≡◌, ℕ, ◌+◌, ◌<◌, ◌≤◌, ◌⊎◌, Bool, true, false, not, cond, ◌&&◌, ◌||◌}
use Rattle.std.proofs.Common.{◌==◌, nat_le, nat_lt, Option, Some, None, inl, inr, refl, sym, ap}
use Rattle.std.proofs.Common.{◌∙◌, arith}
use Rattle.std.proofs.Math.Bool.{and-true, and-false}
use Rattle.std.proofs.lemmas.Bool.{cases_Bool, eqb-true, leb-true, ltb-true, and_parts, or_left}
use Rattle.std.proofs.lemmas.Bool.{or_right, true≢false}
use Rattle.std.specs.Prelude.{MatchOption}
use Rattle.bittle.specs.PlainSet.{PlainSet, complement, has_changed, is_in_span, size, with_span}
use Rattle.bittle.specs.PlainSet.{without_span}
use Rattle.bittle.proofs.CallerChanges.{size_added, size_removed}
use Rattle.bittle_ext.specs.Runs.{IsFirstRun, IsRun}
use Rattle.bittle_ext.proofs.RunCounts.{run_is_unset, size_with_run}
use Rattle.bit_pages.specs.PageLaws.{IsLeastFree, asks_back, hands_out, gives_back, pages_back}
use Rattle.bit_pages.specs.PageLaws.{pages_handed_out}
use Rattle.bit_pages.specs.Pages.{is_taken, is_free_page, is_run_free, is_run_taken, least_free}
use Rattle.bit_pages.specs.Pages.{first_free_run}
use Rattle.bit_pages.specs.Pages.{page_or_full, run_or_none, with_found, with_page, with_run}
use Rattle.bit_pages.specs.Pages.{without_page, answer_to, state_after}
use Rattle.bit_pages.specs.declared.Answer.TheVariants as answer
use Rattle.bit_pages.specs.declared.Request.{Request}
use Rattle.bit_pages.specs.declared.Request.TheVariants.{Take, TakeAt, GiveBack, TakeRun}
use Rattle.bit_pages.specs.declared.Request.TheVariants.{TakeRunAt, GiveBackRun}
use Rattle.bit_pages.proofs.FreeRuns.{first_free_run-is, run_taken}
use Rattle.bit_pages.proofs.LeastFree.{least_free-is, free_page, taken-within, taken-member}
use Rattle.bit_pages.proofs.RunCounts.{given_counts}

-- a step from s to t: pages that pass `out` were free and are handed out, and pages that pass
-- `back` come back; `given` and `less` count these pages
pub record IsStep (s t : PlainSet) (out back : ℕ → Bool) (given less : ℕ) : Type 0 where
  pub capacity : t.capacity ≡ s.capacity
  pub has : (page : ℕ) → t.has page ≡ (out page || (not (back page) && s.has page))
  pub was_free : (page : ℕ) → out page ≡ true → s.has page ≡ false
  pub within : (page : ℕ) → out page ≡ true → page < s.capacity
  pub counts : size t + less ≡ size s + given

-- the step in which no page is handed out and none comes back
nothing : (s : PlainSet) (back : ℕ → Bool) → ((page : ℕ) → back page ≡ false) →
    IsStep s s (λ _. false) back 0 0
nothing s back none = record {
  capacity = refl;
  has = λ page. sym (ap (λ b. not b && s.has page) (none page));
  was_free = λ page e. absurd (cc);
  within = λ page e. absurd (cc);
  counts = refl;
}

-- whether a page is taken after a span was taken, and after a span was given back
taken_or : (b c : Bool) → cond b true c ≡ (b || c)
taken_or true c = refl
taken_or false c = refl

free_or : (b c : Bool) → cond b false c ≡ (not (b && true) && c)
free_or true c = refl
free_or false c = refl

-- the step of a request for a page
page_step : (s : PlainSet) (o : Option ℕ) →
    MatchOption o ((k : ℕ) → k < s.capacity → s.has k ≡ true) (IsLeastFree s) →
    IsStep s (with_found s o) (hands_out Take (page_or_full o)) (λ _. false)
    (pages_handed_out Take (page_or_full o)) (pages_back Take (page_or_full o))
page_step s None all = nothing s (λ _. false) (λ _. refl)
page_step s (Some q) least = record {
  capacity = refl;
  has = λ page. refl;
  was_free = λ page e. ap s.has (eqb-true page q e) ∙ least.is_free;
  within = λ page e. omega (arith, eqb-true page q e, least.within);
  counts = omega (arith, size_added s q least.within least.is_free);
}

-- the step of a request for a chosen page
chosen_step : (s : PlainSet) (p : ℕ) (b : Bool) → b ≡ is_free_page s p →
    IsStep s (cond b (with_page s p) s)
    (hands_out (TakeAt p) (cond b (answer.Page p) answer.NotFree)) (λ _. false)
    (pages_handed_out (TakeAt p) (cond b (answer.Page p) answer.NotFree))
    (pages_back (TakeAt p) (cond b (answer.Page p) answer.NotFree))
chosen_step s p false is = nothing s (λ _. false) (λ _. refl)
chosen_step s p true is = let free = free_page s p (sym is) in record {
  capacity = refl;
  has = λ page. refl;
  was_free = λ page e. ap s.has (eqb-true page p e) ∙ free.1;
  within = λ page e. omega (arith, eqb-true page p e, free.0);
  counts = omega (arith, size_added s p free.0 free.1);
}

-- the step of a request to give a page back
back_step : (s : PlainSet) (p : ℕ) (b : Bool) → b ≡ is_taken s p →
    IsStep s (cond b (without_page s p) s) (hands_out (GiveBack p) (cond b answer.Given
    answer.NotTaken)) (λ page. (page == p) && b)
    (pages_handed_out (GiveBack p) (cond b answer.Given answer.NotTaken))
    (pages_back (GiveBack p) (cond b answer.Given answer.NotTaken))
back_step s p false is = nothing s (λ page. (page == p) && false) (λ page. and-false (page == p))
back_step s p true is = record {
  capacity = refl;
  has = λ page. sym (ap (λ b. not b && s.has page) (and-true (page == p)));
  was_free = λ page e. absurd (cc);
  within = λ page e. absurd (cc);
  counts = omega (arith, size_removed s p (taken-within s p (sym is)) (taken-member s p (sym is)));
}

-- the step in which a free run is handed out
taken_step : (s : PlainSet) (f n : ℕ) → IsRun (complement s) n f →
    IsStep s (with_span s f (f + n)) (is_in_span f (f + n)) (λ _. false) n 0
unfolding has_changed
taken_step s f n run = record {
  capacity = refl;
  has = λ page. taken_or (is_in_span f (f + n) page) (s.has page);
  was_free = λ page e.
      let parts = and_parts (nat_le f page) (nat_lt page (f + n)) e in
      run_is_unset s n f run page (leb-true f page parts.0) (ltb-true page (f + n) parts.1);
  within = λ page e.
      let parts = and_parts (nat_le f page) (nat_lt page (f + n)) e in
      let end : f + n ≤ s.capacity = run.0 in
      omega (arith, ltb-true page (f + n) parts.1, end);
  counts = omega (arith, size_with_run s n f run);
}

-- the step of a request for a run of pages
run_step : (s : PlainSet) (n : ℕ) (o : Option ℕ) → IsFirstRun (complement s) 0 n o →
    IsStep s (with_run s n o) (hands_out (TakeRun n) (run_or_none o)) (λ _. false)
    (pages_handed_out (TakeRun n) (run_or_none o)) (pages_back (TakeRun n) (run_or_none o))
run_step s n None none = nothing s (λ _. false) (λ _. refl)
run_step s n (Some f) first = taken_step s f n first.1

-- the step of a request for a chosen run of pages
chosen_run_step : (s : PlainSet) (f n : ℕ) (b : Bool) → b ≡ is_run_free s f n →
    IsStep s (cond b (with_span s f (f + n)) s)
    (hands_out (TakeRunAt f n) (cond b (answer.Run f) answer.NotFree)) (λ _. false)
    (pages_handed_out (TakeRunAt f n) (cond b (answer.Run f) answer.NotFree))
    (pages_back (TakeRunAt f n) (cond b (answer.Run f) answer.NotFree))
chosen_run_step s f n false is = nothing s (λ _. false) (λ _. refl)
chosen_run_step s f n true is = taken_step s f n (run_taken (complement s) f n (sym is))

-- the step of a request to give a run of pages back
back_run_step : (s : PlainSet) (f n : ℕ) (b : Bool) → b ≡ is_run_taken s f n →
    IsStep s (cond b (without_span s f (f + n)) s) (hands_out (GiveBackRun f n) (cond b answer.Given
    answer.NotTaken)) (λ page. is_in_span f (f + n) page && b)
    (pages_handed_out (GiveBackRun f n) (cond b answer.Given answer.NotTaken))
    (pages_back (GiveBackRun f n) (cond b answer.Given answer.NotTaken))
unfolding has_changed
back_run_step s f n false is = nothing s (λ page. is_in_span f (f + n) page && false)
    (λ page. and-false (is_in_span f (f + n) page))
back_run_step s f n true is = record {
  capacity = refl;
  has = λ page. free_or (is_in_span f (f + n) page) (s.has page);
  was_free = λ page e. absurd (cc);
  within = λ page e. absurd (cc);
  counts = omega (arith, given_counts s n f (run_taken s f n (sym is)));
}

-- each request is a step
pub step : (s : PlainSet) (request : Request) →
    IsStep s (state_after s request) (hands_out request (answer_to s request))
    (gives_back s request)
    (pages_handed_out request (answer_to s request)) (pages_back request (answer_to s request))
step s Take = page_step s (least_free s) (least_free-is s)
step s (TakeAt p) = chosen_step s p (is_free_page s p) refl
step s (GiveBack p) = back_step s p (is_taken s p) refl
step s (TakeRun n) = run_step s n (first_free_run s n) (first_free_run-is s n)
step s (TakeRunAt f n) = chosen_run_step s f n (is_run_free s f n) refl
step s (GiveBackRun f n) = back_run_step s f n (is_run_taken s f n) refl

-- a page that comes back is one that the request gives back
pub given_back : (s : PlainSet) (request : Request) (page : ℕ) →
    gives_back s request page ≡ true →
    (asks_back request page ≡ true) × (answer_to s request ≡ answer.Given)
given_back s Take page e = absurd (cc)
given_back s (TakeAt p) page e = absurd (cc)
given_back s (GiveBack p) page e =
    let parts = and_parts (page == p) (is_taken s p) e in (parts.0, rw parts.1 refl)
given_back s (TakeRun n) page e = absurd (cc)
given_back s (TakeRunAt f n) page e = absurd (cc)
given_back s (GiveBackRun f n) page e =
    let parts = and_parts (is_in_span f (f + n) page) (is_run_taken s f n) e in
    (parts.0, rw parts.1 refl)

-- the number is a page, and it is taken
pub record IsTaken (s : PlainSet) (page : ℕ) : Type 0 where
  pub within : page < s.capacity
  pub is_member : s.has page ≡ true

-- a page that is handed out is taken afterwards
pub page_is_taken : (s : PlainSet) (request : Request) (page : ℕ) →
    hands_out request (answer_to s request) page ≡ true → IsTaken (state_after s request) page
page_is_taken s request page e =
    let one = step s request in record {
      within = omega (arith, one.capacity, one.within page e);
      is_member = one.has page ∙ or_left (hands_out request (answer_to s request) page)
          (not (gives_back s request page) && s.has page) e;
    }

-- a page stays taken until it is given back
pub stays_taken : (s : PlainSet) (request : Request) (page : ℕ) → IsTaken s page →
    IsTaken (state_after s request) page
    ⊎ ((asks_back request page ≡ true) × (answer_to s request ≡ answer.Given))
stays_taken s request page t = elim (cases_Bool (gives_back s request page)) [
  | inl given ↦ inr (given_back s request page given)
  | inr none ↦ let one = step s request in inl (record {
    within = omega (arith, one.capacity, t.within);
    is_member = one.has page
        ∙ or_right (hands_out request (answer_to s request) page)
        (not (gives_back s request page) && s.has page)
        (ap (λ b. not b && s.has page) none ∙ t.is_member);
  })
]

-- a page that is handed out was not taken before
pub given_was_free : (s : PlainSet) (request : Request) (page : ℕ) → IsTaken s page →
    hands_out request (answer_to s request) page ≡ true → ⊥
given_was_free s request page t e =
    true≢false (sym t.is_member ∙ (step s request).was_free page e)
