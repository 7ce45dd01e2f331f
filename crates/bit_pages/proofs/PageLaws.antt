-- What follows from the page machine for every request and for every list of requests.
use Rattle.std.proofs.Common.{◌≡◌, ℕ, zero, suc, ◌<◌, ◌⊎◌, Bool, true, false, cond, Option, Some}
use Rattle.std.proofs.Common.{None, List, [], ◌∷◌, inl, inr, refl, sym, ap, ◌∙◌, arith}
use Rattle.std.proofs.lemmas.Bool.{false_from_ne_true, true≢false}
use Rattle.std.specs.Prelude.{◌↔◌, MatchOption}
use Rattle.bittle.specs.PlainSet.{PlainSet, complement, size}
use Rattle.bittle.proofs.CallerSets.{size_full, size_whole}
use Rattle.bittle_ext.specs.Runs.{IsFirstRun, IsRun}
use Rattle.bit_pages.specs.PageLaws.{IsFree, IsHandedOut, IsGivenBack, IsLeastFree, hands_out}
use Rattle.bit_pages.specs.Pages.{is_taken, is_free_page, is_run_free, is_run_taken, least_free}
use Rattle.bit_pages.specs.Pages.{first_free_run, page_or_full, run_or_none, answer_to, state_after}
use Rattle.bit_pages.specs.Pages.{request_answers}
use Rattle.bit_pages.specs.declared.Answer.TheVariants as answer
use Rattle.bit_pages.specs.declared.Request.{Request}
use Rattle.bit_pages.specs.declared.Request.TheVariants.{Take, TakeAt, GiveBack, TakeRun}
use Rattle.bit_pages.specs.declared.Request.TheVariants.{TakeRunAt, GiveBackRun}
use Rattle.bit_pages.proofs.FreeRuns.{first_free_run-is, first_run_is, run_taken, taken_run}
use Rattle.bit_pages.proofs.LeastFree.{least_free-is, least_free-found, free_page, page_free}
use Rattle.bit_pages.proofs.PageSteps.{IsTaken, given_was_free, page_is_taken, stays_taken}

-- a request to give back has no answer but `Given` and `NotTaken`
given_is_no_page : (b : Bool) (page : ℕ) → cond b answer.Given answer.NotTaken ≡ answer.Page page →
    ⊥
given_is_no_page true page e = cc
given_is_no_page false page e = cc

given_is_no_run : (b : Bool) (first : ℕ) → cond b answer.Given answer.NotTaken ≡ answer.Run first →
    ⊥
given_is_no_run true first e = cc
given_is_no_run false first e = cc

given_is_not_full : (b : Bool) → cond b answer.Given answer.NotTaken ≡ answer.Full → ⊥
given_is_not_full true e = cc
given_is_not_full false e = cc

given_is_not_none : (b : Bool) → cond b answer.Given answer.NotTaken ≡ answer.NoRun → ⊥
given_is_not_none true e = cc
given_is_not_none false e = cc

given_is_free : (b : Bool) → cond b answer.Given answer.NotTaken ≡ answer.NotFree → ⊥
given_is_free true e = cc
given_is_free false e = cc

-- a request for a chosen page has no answer but `Page` and `NotFree`
chosen_is_no_run : (b : Bool) (p first : ℕ) →
    cond b (answer.Page p) answer.NotFree ≡ answer.Run first → ⊥
chosen_is_no_run true p first e = cc
chosen_is_no_run false p first e = cc

chosen_is_not_full : (b : Bool) (p : ℕ) → cond b (answer.Page p) answer.NotFree ≡ answer.Full → ⊥
chosen_is_not_full true p e = cc
chosen_is_not_full false p e = cc

chosen_is_not_none : (b : Bool) (p : ℕ) → cond b (answer.Page p) answer.NotFree ≡ answer.NoRun → ⊥
chosen_is_not_none true p e = cc
chosen_is_not_none false p e = cc

-- a request for a chosen run has no answer but `Run` and `NotFree`
chosen_run_is_no_page : (b : Bool) (f page : ℕ) →
    cond b (answer.Run f) answer.NotFree ≡ answer.Page page → ⊥
chosen_run_is_no_page true f page e = cc
chosen_run_is_no_page false f page e = cc

chosen_run_is_not_full : (b : Bool) (f : ℕ) →
    cond b (answer.Run f) answer.NotFree ≡ answer.Full → ⊥
chosen_run_is_not_full true f e = cc
chosen_run_is_not_full false f e = cc

chosen_run_is_not_none : (b : Bool) (f : ℕ) →
    cond b (answer.Run f) answer.NotFree ≡ answer.NoRun → ⊥
chosen_run_is_not_none true f e = cc
chosen_run_is_not_none false f e = cc

-- a request for a page is not answered by `Run` or `NoRun`, and a request for a run is not answered
-- by `Page` or `Full`
page_is_no_run : (o : Option ℕ) (first : ℕ) → page_or_full o ≡ answer.Run first → ⊥
page_is_no_run None first e = cc
page_is_no_run (Some p) first e = cc

page_is_not_none : (o : Option ℕ) → page_or_full o ≡ answer.NoRun → ⊥
page_is_not_none None e = cc
page_is_not_none (Some p) e = cc

run_is_no_page : (o : Option ℕ) (page : ℕ) → run_or_none o ≡ answer.Page page → ⊥
run_is_no_page None page e = cc
run_is_no_page (Some p) page e = cc

run_is_not_full : (o : Option ℕ) → run_or_none o ≡ answer.Full → ⊥
run_is_not_full None e = cc
run_is_not_full (Some p) e = cc

page_is_free : (o : Option ℕ) → page_or_full o ≡ answer.NotFree → ⊥
page_is_free None e = cc
page_is_free (Some p) e = cc

run_is_free : (o : Option ℕ) → run_or_none o ≡ answer.NotFree → ⊥
run_is_free None e = cc
run_is_free (Some p) e = cc

-- what a request for a page, answered by this page, says of the page
abbrev IsOfFree : PlainSet → Request → ℕ → Type 0
IsOfFree s request page =
    ((request ≡ Take) × IsLeastFree s page) ⊎ ((request ≡ TakeAt page) × IsFree s page)

-- a page is answered exactly if any page is asked for and this page is the least free one, or if
-- this page is asked for and free
pub page_is_free_one : (s : PlainSet) (request : Request) (page : ℕ) →
    (answer_to s request ≡ answer.Page page) ↔ IsOfFree s request page
page_is_free_one s Take page = (by (least_free s) (least_free-is s), found)
  where
    by : (o : Option ℕ) → MatchOption o ((k : ℕ) → k < s.capacity → s.has k ≡ true)
        (IsLeastFree s) → page_or_full o ≡ answer.Page page → IsOfFree s Take page
    by None all e = absurd (cc)
    by (Some q) least e = let same : q ≡ page = cc in inl (refl, rw same at least)

    found : IsOfFree s Take page → page_or_full (least_free s) ≡ answer.Page page
    found (inl e) = ap page_or_full (least_free-found s page e.1)
    found (inr e) = let kind = e.0 in absurd (cc)
page_is_free_one s (TakeAt p) page = (by (is_free_page s p) (free_page s p), found)
  where
    by : (b : Bool) → (b ≡ true → IsFree s p) →
        cond b (answer.Page p) answer.NotFree ≡ answer.Page page → IsOfFree s (TakeAt p) page
    by false free e = absurd (cc)
    by true free e = let same : p ≡ page = cc in inr (ap TakeAt same, rw same at (free refl))

    found : IsOfFree s (TakeAt p) page →
        cond (is_free_page s p) (answer.Page p) answer.NotFree ≡ answer.Page page
    found (inl e) = let kind = e.0 in absurd (cc)
    found (inr e) =
        let kind = e.0 in
        let same : page ≡ p = cc in
        ap (λ b. cond b (answer.Page p) answer.NotFree) (page_free s p (rw same at e.1))
        ∙ ap answer.Page (sym same)
page_is_free_one s (GiveBack p) page =
    (λ e. absurd (given_is_no_page (is_taken s p) page e), none)
  where
    none : IsOfFree s (GiveBack p) page → answer_to s (GiveBack p) ≡ answer.Page page
    none (inl e) = let kind = e.0 in absurd (cc)
    none (inr e) = let kind = e.0 in absurd (cc)
page_is_free_one s (TakeRun n) page =
    (λ e. absurd (run_is_no_page (first_free_run s n) page e), none)
  where
    none : IsOfFree s (TakeRun n) page → answer_to s (TakeRun n) ≡ answer.Page page
    none (inl e) = let kind = e.0 in absurd (cc)
    none (inr e) = let kind = e.0 in absurd (cc)
page_is_free_one s (TakeRunAt f n) page =
    (λ e. absurd (chosen_run_is_no_page (is_run_free s f n) f page e), none)
  where
    none : IsOfFree s (TakeRunAt f n) page → answer_to s (TakeRunAt f n) ≡ answer.Page page
    none (inl e) = let kind = e.0 in absurd (cc)
    none (inr e) = let kind = e.0 in absurd (cc)
page_is_free_one s (GiveBackRun f n) page =
    (λ e. absurd (given_is_no_page (is_run_taken s f n) page e), none)
  where
    none : IsOfFree s (GiveBackRun f n) page →
        answer_to s (GiveBackRun f n) ≡ answer.Page page
    none (inl e) = let kind = e.0 in absurd (cc)
    none (inr e) = let kind = e.0 in absurd (cc)

-- what a request that is answered by `NotFree` says of the pages that it asks for
abbrev IsNotOfFree : PlainSet → Request → Type 0
IsNotOfFree s request =
    ((page : ℕ) × (request ≡ TakeAt page) × (IsFree s page → ⊥))
    ⊎ ((first : ℕ) × (n : ℕ) × (request ≡ TakeRunAt first n)
    × (IsRun (complement s) n first → ⊥))

chosen_is_false : (b : Bool) (p : ℕ) → cond b (answer.Page p) answer.NotFree ≡ answer.NotFree →
    b ≡ false
chosen_is_false true p e = absurd (cc)
chosen_is_false false p e = refl

chosen_run_is_false : (b : Bool) (f : ℕ) →
    cond b (answer.Run f) answer.NotFree ≡ answer.NotFree → b ≡ false
chosen_run_is_false true f e = absurd (cc)
chosen_run_is_false false f e = refl

-- `NotFree` is answered exactly if one page is asked for that is not a free page, or one run that
-- is not a free run
pub asked_is_not_free : (s : PlainSet) (request : Request) →
    (answer_to s request ≡ answer.NotFree) ↔ IsNotOfFree s request
asked_is_not_free s Take = (λ e. absurd (page_is_free (least_free s) e), none)
  where
    none : IsNotOfFree s Take → answer_to s Take ≡ answer.NotFree
    none (inl e) = let kind = e.1 in absurd (cc)
    none (inr e) = let kind = e.2 in absurd (cc)
asked_is_not_free s (TakeAt p) = (
  λ e. inl (
    p,
    refl,
    λ is. true≢false (sym (page_free s p is) ∙ chosen_is_false (is_free_page s p) p e),
  ),
  found,
)
  where
    found : IsNotOfFree s (TakeAt p) →
        cond (is_free_page s p) (answer.Page p) answer.NotFree ≡ answer.NotFree
    found (inl e) =
        let kind = e.1 in
        let same : e.0 ≡ p = cc in
        let none : IsFree s p → ⊥ = rw same at e.2 in
        ap (λ b. cond b (answer.Page p) answer.NotFree)
        (false_from_ne_true (is_free_page s p) (λ e. none (free_page s p e)))
    found (inr e) = let kind = e.2 in absurd (cc)
asked_is_not_free s (GiveBack p) = (λ e. absurd (given_is_free (is_taken s p) e), none)
  where
    none : IsNotOfFree s (GiveBack p) → answer_to s (GiveBack p) ≡ answer.NotFree
    none (inl e) = let kind = e.1 in absurd (cc)
    none (inr e) = let kind = e.2 in absurd (cc)
asked_is_not_free s (TakeRun n) = (λ e. absurd (run_is_free (first_free_run s n) e), none)
  where
    none : IsNotOfFree s (TakeRun n) → answer_to s (TakeRun n) ≡ answer.NotFree
    none (inl e) = let kind = e.1 in absurd (cc)
    none (inr e) = let kind = e.2 in absurd (cc)
asked_is_not_free s (TakeRunAt f n) = (
  λ e. inr (
    f,
    n,
    refl,
    λ run. true≢false (sym (taken_run (complement s) f n run)
        ∙ chosen_run_is_false (is_run_free s f n) f e),
  ),
  found,
)
  where
    found : IsNotOfFree s (TakeRunAt f n) →
        cond (is_run_free s f n) (answer.Run f) answer.NotFree ≡ answer.NotFree
    found (inl e) = let kind = e.1 in absurd (cc)
    found (inr e) =
        let kind = e.2 in
        let first : e.0 ≡ f = cc in
        let many : e.1 ≡ n = cc in
        let none : IsRun (complement s) n f → ⊥ = rw many at rw first at e.3 in
        ap (λ b. cond b (answer.Run f) answer.NotFree)
        (false_from_ne_true (is_run_free s f n) (λ e. none (run_taken (complement s) f n e)))
asked_is_not_free s (GiveBackRun f n) = (λ e. absurd (given_is_free (is_run_taken s f n) e), none)
  where
    none : IsNotOfFree s (GiveBackRun f n) → answer_to s (GiveBackRun f n) ≡ answer.NotFree
    none (inl e) = let kind = e.1 in absurd (cc)
    none (inr e) = let kind = e.2 in absurd (cc)

-- what a request for a run, answered by this run, says of the run
abbrev IsOfFreeRun : PlainSet → Request → ℕ → Type 0
IsOfFreeRun s request first =
    ((n : ℕ) × (request ≡ TakeRun n) × IsFirstRun (complement s) 0 n (Some first))
    ⊎ ((n : ℕ) × (request ≡ TakeRunAt first n) × IsRun (complement s) n first)

-- a run of pages is answered exactly if any run of a length is asked for and this run is the first
-- free one, or if this run is asked for and free
pub run_is_free_one : (s : PlainSet) (request : Request) (first : ℕ) →
    (answer_to s request ≡ answer.Run first) ↔ IsOfFreeRun s request first
run_is_free_one s Take first = (λ e. absurd (page_is_no_run (least_free s) first e), none)
  where
    none : IsOfFreeRun s Take first → answer_to s Take ≡ answer.Run first
    none (inl e) = let kind = e.1 in absurd (cc)
    none (inr e) = let kind = e.1 in absurd (cc)
run_is_free_one s (TakeAt p) first =
    (λ e. absurd (chosen_is_no_run (is_free_page s p) p first e), none)
  where
    none : IsOfFreeRun s (TakeAt p) first → answer_to s (TakeAt p) ≡ answer.Run first
    none (inl e) = let kind = e.1 in absurd (cc)
    none (inr e) = let kind = e.1 in absurd (cc)
run_is_free_one s (GiveBack p) first =
    (λ e. absurd (given_is_no_run (is_taken s p) first e), none)
  where
    none : IsOfFreeRun s (GiveBack p) first → answer_to s (GiveBack p) ≡ answer.Run first
    none (inl e) = let kind = e.1 in absurd (cc)
    none (inr e) = let kind = e.1 in absurd (cc)
run_is_free_one s (TakeRun n) first = (by (first_free_run s n) (first_free_run-is s n), found)
  where
    by : (o : Option ℕ) → IsFirstRun (complement s) 0 n o → run_or_none o ≡ answer.Run first →
        IsOfFreeRun s (TakeRun n) first
    by None none e = absurd (cc)
    by (Some q) is e = let same : q ≡ first = cc in inl (n, refl, rw same at is)

    found : IsOfFreeRun s (TakeRun n) first → run_or_none (first_free_run s n) ≡ answer.Run first
    found (inl e) =
        let kind = e.1 in
        let same : e.0 ≡ n = cc in
        ap run_or_none (sym (first_run_is s n (Some first) (rw same at e.2)))
    found (inr e) = let kind = e.1 in absurd (cc)
run_is_free_one s (TakeRunAt f n) first =
    (by (is_run_free s f n) (run_taken (complement s) f n), found)
  where
    by : (b : Bool) → (b ≡ true → IsRun (complement s) n f) →
        cond b (answer.Run f) answer.NotFree ≡ answer.Run first →
        IsOfFreeRun s (TakeRunAt f n) first
    by false run e = absurd (cc)
    by true run e =
        let same : f ≡ first = cc in
        inr (n, ap (λ k. TakeRunAt k n) same, rw same at (run refl))

    found : IsOfFreeRun s (TakeRunAt f n) first →
        cond (is_run_free s f n) (answer.Run f) answer.NotFree ≡ answer.Run first
    found (inl e) = let kind = e.1 in absurd (cc)
    found (inr e) =
        let kind = e.1 in
        let start : first ≡ f = cc in
        let many : e.0 ≡ n = cc in
        ap (λ b. cond b (answer.Run f) answer.NotFree)
        (taken_run (complement s) f n (rw many at rw start at e.2))
        ∙ ap answer.Run (sym start)
run_is_free_one s (GiveBackRun f n) first =
    (λ e. absurd (given_is_no_run (is_run_taken s f n) first e), none)
  where
    none : IsOfFreeRun s (GiveBackRun f n) first →
        answer_to s (GiveBackRun f n) ≡ answer.Run first
    none (inl e) = let kind = e.1 in absurd (cc)
    none (inr e) = let kind = e.1 in absurd (cc)

-- `Full` is answered exactly if a page is asked for and all pages are taken
pub full_is_taken : (s : PlainSet) (request : Request) → (answer_to s request ≡ answer.Full)
    ↔ ((request ≡ Take) × (size s ≡ s.capacity))
full_is_taken s Take = by (least_free s) (least_free-is s)
  where
    by : (o : Option ℕ) → MatchOption o ((k : ℕ) → k < s.capacity → s.has k ≡ true)
        (IsLeastFree s) → (page_or_full o ≡ answer.Full) ↔ ((Take ≡ Take) × (size s ≡ s.capacity))
    by None all = (λ e. (refl, size_whole s all), λ e. refl)
    by (Some q) least = (
      λ e. absurd (cc),
      λ e. absurd (true≢false (sym (size_full s e.1 q least.within) ∙ least.is_free)),
    )
full_is_taken s (TakeAt p) = (
  λ e. absurd (chosen_is_not_full (is_free_page s p) p e),
  λ e. absurd (cc),
)
full_is_taken s (GiveBack p) = (
  λ e. absurd (given_is_not_full (is_taken s p) e),
  λ e. absurd (cc),
)
full_is_taken s (TakeRun n) = (
  λ e. absurd (run_is_not_full (first_free_run s n) e),
  λ e. absurd (cc),
)
full_is_taken s (TakeRunAt f n) = (
  λ e. absurd (chosen_run_is_not_full (is_run_free s f n) f e),
  λ e. absurd (cc),
)
full_is_taken s (GiveBackRun f n) = (
  λ e. absurd (given_is_not_full (is_run_taken s f n) e),
  λ e. absurd (cc),
)

-- `NoRun` is answered exactly if any run of a length is asked for and no free run has that length
pub none_is_free : (s : PlainSet) (request : Request) → (answer_to s request ≡ answer.NoRun)
    ↔ ((n : ℕ) × (request ≡ TakeRun n) × ((first : ℕ) → IsRun (complement s) n first → ⊥))
none_is_free s Take = (
  λ e. absurd (page_is_not_none (least_free s) e),
  λ e. let kind = e.1 in absurd (cc),
)
none_is_free s (TakeAt p) = (
  λ e. absurd (chosen_is_not_none (is_free_page s p) p e),
  λ e. let kind = e.1 in absurd (cc),
)
none_is_free s (GiveBack p) = (
  λ e. absurd (given_is_not_none (is_taken s p) e),
  λ e. let kind = e.1 in absurd (cc),
)
none_is_free s (TakeRun n) = by (first_free_run s n) (first_free_run-is s n)
  where
    by : (o : Option ℕ) → IsFirstRun (complement s) 0 n o → (run_or_none o ≡ answer.NoRun)
        ↔ ((m : ℕ) × (TakeRun n ≡ TakeRun m)
        × ((first : ℕ) → IsRun (complement s) m first → ⊥))
    by None none = (λ e. (n, refl, λ first run. none first (omega arith) run), λ e. refl)
    by (Some q) is = (
      λ e. absurd (cc),
      λ e. let kind = e.1 in let same : n ≡ e.0 = cc in
          absurd (e.2 q (rw same at is.1)),
    )
none_is_free s (TakeRunAt f n) = (
  λ e. absurd (chosen_run_is_not_none (is_run_free s f n) f e),
  λ e. let kind = e.1 in absurd (cc),
)
none_is_free s (GiveBackRun f n) = (
  λ e. absurd (given_is_not_none (is_run_taken s f n) e),
  λ e. let kind = e.1 in absurd (cc),
)

-- what a request that is answered by `Given` says of the pages that it gives back
abbrev IsOfTaken : PlainSet → Request → Type 0
IsOfTaken s request =
    ((page : ℕ) × (request ≡ GiveBack page) × (is_taken s page ≡ true))
    ⊎ ((first : ℕ) × (n : ℕ) × (request ≡ GiveBackRun first n) × IsRun s n first)

page_is_not_given : (o : Option ℕ) → page_or_full o ≡ answer.Given → ⊥
page_is_not_given None e = cc
page_is_not_given (Some p) e = cc

chosen_is_not_given : (b : Bool) (p : ℕ) →
    cond b (answer.Page p) answer.NotFree ≡ answer.Given → ⊥
chosen_is_not_given true p e = cc
chosen_is_not_given false p e = cc

chosen_run_is_not_given : (b : Bool) (f : ℕ) →
    cond b (answer.Run f) answer.NotFree ≡ answer.Given → ⊥
chosen_run_is_not_given true f e = cc
chosen_run_is_not_given false f e = cc

run_is_not_given : (o : Option ℕ) → run_or_none o ≡ answer.Given → ⊥
run_is_not_given None e = cc
run_is_not_given (Some p) e = cc

given_is_true : (b : Bool) → cond b answer.Given answer.NotTaken ≡ answer.Given → b ≡ true
given_is_true true e = refl
given_is_true false e = absurd (cc)

-- `Given` is answered exactly if pages are given back and each of them is taken
pub given_is_taken : (s : PlainSet) (request : Request) →
    (answer_to s request ≡ answer.Given) ↔ IsOfTaken s request
given_is_taken s Take = (λ e. absurd (page_is_not_given (least_free s) e), none)
  where
    none : IsOfTaken s Take → answer_to s Take ≡ answer.Given
    none (inl e) = let kind = e.1 in absurd (cc)
    none (inr e) = let kind = e.2 in absurd (cc)
given_is_taken s (TakeAt p) = (λ e. absurd (chosen_is_not_given (is_free_page s p) p e), none)
  where
    none : IsOfTaken s (TakeAt p) → answer_to s (TakeAt p) ≡ answer.Given
    none (inl e) = let kind = e.1 in absurd (cc)
    none (inr e) = let kind = e.2 in absurd (cc)
given_is_taken s (GiveBack p) = (λ e. inl (p, refl, given_is_true (is_taken s p) e), found)
  where
    found : IsOfTaken s (GiveBack p) →
        cond (is_taken s p) answer.Given answer.NotTaken ≡ answer.Given
    found (inl e) =
        let kind = e.1 in
        let same : e.0 ≡ p = cc in
        ap (λ b. cond b answer.Given answer.NotTaken) (rw same at e.2)
    found (inr e) = let kind = e.2 in absurd (cc)
given_is_taken s (TakeRun n) = (λ e. absurd (run_is_not_given (first_free_run s n) e), none)
  where
    none : IsOfTaken s (TakeRun n) → answer_to s (TakeRun n) ≡ answer.Given
    none (inl e) = let kind = e.1 in absurd (cc)
    none (inr e) = let kind = e.2 in absurd (cc)
given_is_taken s (TakeRunAt f n) =
    (λ e. absurd (chosen_run_is_not_given (is_run_free s f n) f e), none)
  where
    none : IsOfTaken s (TakeRunAt f n) → answer_to s (TakeRunAt f n) ≡ answer.Given
    none (inl e) = let kind = e.1 in absurd (cc)
    none (inr e) = let kind = e.2 in absurd (cc)
given_is_taken s (GiveBackRun f n) =
    (λ e. inr (f, n, refl, run_taken s f n (given_is_true (is_run_taken s f n) e)), found)
  where
    found : IsOfTaken s (GiveBackRun f n) →
        cond (is_run_taken s f n) answer.Given answer.NotTaken ≡ answer.Given
    found (inl e) = let kind = e.1 in absurd (cc)
    found (inr e) =
        let kind = e.2 in
        let first : e.0 ≡ f = cc in
        let many : e.1 ≡ n = cc in
        ap (λ b. cond b answer.Given answer.NotTaken) (taken_run s f n (rw many at rw first at e.3))

-- what `IsHandedOut` says of the first request of a list
gives_first : (s : PlainSet) (request : Request) (requests : List Request) (page : ℕ) →
    IsHandedOut s (request ∷ requests) zero page →
    hands_out request (answer_to s request) page ≡ true
unfolding request_answers
gives_first s request requests page out =
    let asked : request ≡ out.request = some_is out.asked in
    let answered : answer_to s request ≡ out.answer = some_is out.answered in
    ap (λ r. hands_out r (answer_to s request) page) asked
    ∙ ap (λ a. hands_out out.request a page) answered ∙ out.has
  where
    some_is : {X : Type 0} {x y : X} → Some x ≡ Some y → x ≡ y
    some_is e = cc

-- what `IsHandedOut` says of a later request of a list
gives_later : (s : PlainSet) (request : Request) (requests : List Request) (page j : ℕ) →
    IsHandedOut s (request ∷ requests) (suc j) page →
    IsHandedOut (state_after s request) requests j page
unfolding request_answers
gives_later s request requests page j out = record {
  request = out.request;
  answer = out.answer;
  asked = out.asked;
  answered = out.answered;
  has = out.has;
}

back_later : (s : PlainSet) (request : Request) (requests : List Request) (page k : ℕ) →
    IsGivenBack (state_after s request) requests k page →
    IsGivenBack s (request ∷ requests) (suc k) page
unfolding request_answers
back_later s request requests page k back = record {
  request = back.request;
  asked = back.asked;
  answered = back.answered;
  has = back.has;
}

-- a taken page that is handed out later was given back before
given_before : (s : PlainSet) (requests : List Request) (page j : ℕ) → IsTaken s page →
    IsHandedOut s requests j page → (k : ℕ) × (k < j) × IsGivenBack s requests k page
unfolding request_answers
given_before s [] page j t out = let none = out.asked in absurd (cc)
given_before s (request ∷ requests) page zero t out =
    absurd (given_was_free s request page t (gives_first s request requests page out))
given_before s (request ∷ requests) page (suc j) t out =
    elim (stays_taken s request page t) [
      | inl stays ↦
          let later = given_before (state_after s request) requests page j stays
          (gives_later s request requests page j out) in
          (suc later.0, omega (arith, later.1), back_later s request requests page later.0 later.2)
      | inr given ↦ (
        zero,
        omega arith,
        record {
          request = request;
          asked = refl;
          answered = ap Some given.1;
          has = given.0;
        },
      )
    ]

-- between two answers that hand out the same page, that page was given back
pub given_between : (s : PlainSet) (requests : List Request) (page i j : ℕ) → i < j →
    IsHandedOut s requests i page → IsHandedOut s requests j page →
    (k : ℕ) × (i < k) × (k < j) × IsGivenBack s requests k page
given_between s requests page i zero h a b = absurd (omega arith)
given_between s [] page i (suc j) h a b = let none = b.asked in absurd (cc)
given_between s (request ∷ requests) page zero (suc j) h a b =
    let later = given_before (state_after s request) requests page j
    (page_is_taken s request page (gives_first s request requests page a))
    (gives_later s request requests page j b) in (
      suc later.0,
      omega arith,
      omega (arith, later.1),
      back_later s request requests page later.0 later.2,
    )
given_between s (request ∷ requests) page (suc i) (suc j) h a b =
    let later = given_between (state_after s request) requests page i j (omega arith)
    (gives_later s request requests page i a) (gives_later s request requests page j b) in (
      suc later.0,
      omega (arith, later.1),
      omega (arith, later.2),
      back_later s request requests page later.0 later.3,
    )

-- a page that is taken before a list of requests is handed out in it only after it was given back
pub given_first : (s : PlainSet) (requests : List Request) (page j : ℕ) → page < s.capacity →
    s.has page ≡ true → IsHandedOut s requests j page →
    (k : ℕ) × (k < j) × IsGivenBack s requests k page
given_first s requests page j h t out = given_before s requests page j
    (record { within = h; is_member = t }) out
