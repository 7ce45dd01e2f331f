-- Which requests are refused, and which change nothing.
use Rattle.std.proofs.Common.{◌≡◌, ℕ, ◌+◌, ◌⊎◌, Bool, true, false, cond, Option, Some, None, inl}
use Rattle.std.proofs.Common.{inr, refl, sym, ap, ◌∙◌, arith}
use Rattle.std.proofs.lemmas.Bool.{false_from_ne_true, true≢false}
use Rattle.std.specs.Prelude.{◌↔◌}
use Rattle.bittle.specs.PlainSet.{PlainSet, size, with_span, without_span}
use Rattle.bittle_bits.proofs.Spans.{changed-none}
use Rattle.bittle_ext.specs.Runs.{IsRun}
use Rattle.bit_pages.specs.PageLaws.{is_refused, length_of, pages_back, pages_handed_out}
use Rattle.bit_pages.specs.Pages.{is_taken, is_free_page, is_run_free, is_run_taken, least_free}
use Rattle.bit_pages.specs.Pages.{first_free_run, page_or_full, run_or_none, with_found, with_page}
use Rattle.bit_pages.specs.Pages.{with_run, without_page, answer_to, state_after}
use Rattle.bit_pages.specs.declared.Answer.{Answer}
use Rattle.bit_pages.specs.declared.Answer.TheVariants as answer
use Rattle.bit_pages.specs.declared.Request.{Request}
use Rattle.bit_pages.specs.declared.Request.TheVariants.{Take, TakeAt, GiveBack, TakeRun}
use Rattle.bit_pages.specs.declared.Request.TheVariants.{TakeRunAt, GiveBackRun}
use Rattle.bit_pages.proofs.FreeRuns.{run_taken, taken_run}
use Rattle.bit_pages.proofs.PageSteps.{step}

-- the request is refused, or it takes or gives back a run of length 0
abbrev IsIdle : Request → Answer → Type 0
IsIdle request a = (is_refused a ≡ true) ⊎ (length_of request ≡ 0)

-- if nothing changes, the count of the taken pages stays, so no page was handed out or came back
unchanged_is_idle : (s : PlainSet) (request : Request) → state_after s request ≡ s →
    IsIdle request (answer_to s request)
unchanged_is_idle s request same =
    by (answer_to s request) (omega (arith, (step s request).counts, ap size same))
  where
    by : (a : Answer) → pages_back request a ≡ pages_handed_out request a → IsIdle request a
    by (answer.Page page) e = absurd (omega (arith, e))
    by answer.Full e = inl refl
    by answer.NotFree e = inl refl
    by answer.Given e = inr e
    by answer.NotTaken e = inl refl
    by (answer.Run first) e = inr (sym e)
    by answer.NoRun e = inl refl

idle_is_unchanged : (s : PlainSet) (request : Request) → IsIdle request (answer_to s request) →
    state_after s request ≡ s
idle_is_unchanged s Take idle = by (least_free s) idle
  where
    by : (o : Option ℕ) → IsIdle Take (page_or_full o) → with_found s o ≡ s
    by None h = refl
    by (Some q) (inl e) = absurd (cc)
    by (Some q) (inr e) = absurd (cc)
idle_is_unchanged s (TakeAt p) idle = by (is_free_page s p) idle
  where
    by : (b : Bool) → IsIdle (TakeAt p) (cond b (answer.Page p) answer.NotFree) →
        cond b (with_page s p) s ≡ s
    by false h = refl
    by true (inl e) = absurd (cc)
    by true (inr e) = absurd (cc)
idle_is_unchanged s (GiveBack p) idle = by (is_taken s p) idle
  where
    by : (b : Bool) → IsIdle (GiveBack p) (cond b answer.Given answer.NotTaken) →
        cond b (without_page s p) s ≡ s
    by false h = refl
    by true (inl e) = absurd (cc)
    by true (inr e) = absurd (cc)
idle_is_unchanged s (TakeRun n) idle = by (first_free_run s n) idle
  where
    by : (o : Option ℕ) → IsIdle (TakeRun n) (run_or_none o) → with_run s n o ≡ s
    by None h = refl
    by (Some f) (inl e) = absurd (cc)
    by (Some f) (inr e) = changed-none (λ _. true) s f (f + n) (omega (arith, e))
idle_is_unchanged s (TakeRunAt f n) idle = by (is_run_free s f n) idle
  where
    by : (b : Bool) → IsIdle (TakeRunAt f n) (cond b (answer.Run f) answer.NotFree) →
        cond b (with_span s f (f + n)) s ≡ s
    by false h = refl
    by true (inl e) = absurd (cc)
    by true (inr e) = changed-none (λ _. true) s f (f + n) (omega (arith, e))
idle_is_unchanged s (GiveBackRun f n) idle = by (is_run_taken s f n) idle
  where
    by : (b : Bool) → IsIdle (GiveBackRun f n) (cond b answer.Given answer.NotTaken) →
        cond b (without_span s f (f + n)) s ≡ s
    by false h = refl
    by true (inl e) = absurd (cc)
    by true (inr e) = changed-none (λ _. false) s f (f + n) (omega (arith, e))

-- a request changes nothing exactly if it is refused, or if it takes or gives back a run of length
-- 0
pub unchanged_is_refused : (s : PlainSet) (request : Request) → (state_after s request ≡ s)
    ↔ ((is_refused (answer_to s request) ≡ true) ⊎ (length_of request ≡ 0))
unchanged_is_refused s request = (unchanged_is_idle s request, idle_is_unchanged s request)

-- what a request that is answered by `NotTaken` says of the pages that it gives back
abbrev IsOfFree : PlainSet → Request → Type 0
IsOfFree s request =
    ((page : ℕ) × (request ≡ GiveBack page) × (is_taken s page ≡ false))
    ⊎ ((first : ℕ) × (n : ℕ) × (request ≡ GiveBackRun first n) × (IsRun s n first → ⊥))

page_is_taken : (o : Option ℕ) → page_or_full o ≡ answer.NotTaken → ⊥
page_is_taken None e = cc
page_is_taken (Some p) e = cc

chosen_is_taken : (b : Bool) (p : ℕ) → cond b (answer.Page p) answer.NotFree ≡ answer.NotTaken → ⊥
chosen_is_taken true p e = cc
chosen_is_taken false p e = cc

chosen_run_is_taken : (b : Bool) (f : ℕ) →
    cond b (answer.Run f) answer.NotFree ≡ answer.NotTaken → ⊥
chosen_run_is_taken true f e = cc
chosen_run_is_taken false f e = cc

run_is_taken : (o : Option ℕ) → run_or_none o ≡ answer.NotTaken → ⊥
run_is_taken None e = cc
run_is_taken (Some p) e = cc

given_is_false : (b : Bool) → cond b answer.Given answer.NotTaken ≡ answer.NotTaken → b ≡ false
given_is_false true e = absurd (cc)
given_is_false false e = refl

-- `NotTaken` is answered exactly if pages are given back and one of them is not taken
pub not_taken_is : (s : PlainSet) (request : Request) →
    (answer_to s request ≡ answer.NotTaken) ↔ IsOfFree s request
not_taken_is s Take = (λ e. absurd (page_is_taken (least_free s) e), none)
  where
    none : IsOfFree s Take → answer_to s Take ≡ answer.NotTaken
    none (inl e) = let kind = e.1 in absurd (cc)
    none (inr e) = let kind = e.2 in absurd (cc)
not_taken_is s (TakeAt p) = (λ e. absurd (chosen_is_taken (is_free_page s p) p e), none)
  where
    none : IsOfFree s (TakeAt p) → answer_to s (TakeAt p) ≡ answer.NotTaken
    none (inl e) = let kind = e.1 in absurd (cc)
    none (inr e) = let kind = e.2 in absurd (cc)
not_taken_is s (GiveBack p) = (λ e. inl (p, refl, given_is_false (is_taken s p) e), found)
  where
    found : IsOfFree s (GiveBack p) →
        cond (is_taken s p) answer.Given answer.NotTaken ≡ answer.NotTaken
    found (inl e) =
        let kind = e.1 in
        let same : e.0 ≡ p = cc in
        ap (λ b. cond b answer.Given answer.NotTaken) (rw same at e.2)
    found (inr e) = let kind = e.2 in absurd (cc)
not_taken_is s (TakeRun n) = (λ e. absurd (run_is_taken (first_free_run s n) e), none)
  where
    none : IsOfFree s (TakeRun n) → answer_to s (TakeRun n) ≡ answer.NotTaken
    none (inl e) = let kind = e.1 in absurd (cc)
    none (inr e) = let kind = e.2 in absurd (cc)
not_taken_is s (TakeRunAt f n) = (λ e. absurd (chosen_run_is_taken (is_run_free s f n) f e), none)
  where
    none : IsOfFree s (TakeRunAt f n) → answer_to s (TakeRunAt f n) ≡ answer.NotTaken
    none (inl e) = let kind = e.1 in absurd (cc)
    none (inr e) = let kind = e.2 in absurd (cc)
not_taken_is s (GiveBackRun f n) = (
  λ e. inr (
    f,
    n,
    refl,
    λ run. true≢false (sym (taken_run s f n run)
        ∙ given_is_false (is_run_taken s f n) e),
  ),
  found,
)
  where
    found : IsOfFree s (GiveBackRun f n) →
        cond (is_run_taken s f n) answer.Given answer.NotTaken ≡ answer.NotTaken
    found (inl e) = let kind = e.1 in absurd (cc)
    found (inr e) =
        let kind = e.2 in
        let first : e.0 ≡ f = cc in
        let many : e.1 ≡ n = cc in
        let none : IsRun s n f → ⊥ = rw many at rw first at e.3 in
        ap (λ b. cond b answer.Given answer.NotTaken)
        (false_from_ne_true (is_run_taken s f n) (λ e. none (run_taken s f n e)))
