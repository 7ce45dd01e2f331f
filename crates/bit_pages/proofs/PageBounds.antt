-- How many pages there are: requests do not change this number, and answers are below it.
use Rattle.std.proofs.Common.{◌≡◌, ℕ, zero, suc, ◌+◌, ◌<◌, ◌≤◌, ◌⊎◌, Some, List, [], ◌∷◌, inl, inr}
use Rattle.std.proofs.Common.{refl, ap, ◌∙◌, arith}
use Rattle.std.specs.Prelude.{slice_get}
use Rattle.bittle.specs.PlainSet.{PlainSet, complement}
use Rattle.bittle_ext.specs.Runs.{IsFirstRun, IsRun}
use Rattle.bit_histories.proofs.Histories.{each_answer}
use Rattle.bit_pages.specs.PageLaws.{IsFree, IsLeastFree, length_of}
use Rattle.bit_pages.specs.Pages.{answer_to, state_after, request_answers, final_state}
use Rattle.bit_pages.specs.declared.Answer.TheVariants as answer
use Rattle.bit_pages.specs.declared.Request.{Request}
use Rattle.bit_pages.specs.declared.Request.TheVariants.{Take, TakeAt, TakeRun, TakeRunAt}
use Rattle.bit_pages.proofs.PageLaws.{page_is_free_one, run_is_free_one}
use Rattle.bit_pages.proofs.PageSteps.{step}

-- no list of requests changes how many pages there are
pub pages_stay : (s : PlainSet) (requests : List Request) →
    (final_state s requests).capacity ≡ s.capacity
unfolding final_state
pages_stay s [] = refl
pages_stay s (request ∷ requests) =
    pages_stay (state_after s request) requests ∙ (step s request).capacity

some_is : {X : Type 0} {x y : X} → Some x ≡ Some y → x ≡ y
some_is e = cc

-- a page that one request is answered is below the number of pages
page_is_below : (s : PlainSet) (request : Request) (page : ℕ) →
    answer_to s request ≡ answer.Page page → page < s.capacity
page_is_below s request page e = by ((page_is_free_one s request page).0 e)
  where
    by : ((request ≡ Take) × IsLeastFree s page) ⊎ ((request ≡ TakeAt page) × IsFree s page) →
        page < s.capacity
    by (inl least) = least.1.within
    by (inr free) = free.1.0

-- a run that one request is answered ends at or below the number of pages
run_is_below : (s : PlainSet) (request : Request) (first : ℕ) →
    answer_to s request ≡ answer.Run first → first + length_of request ≤ s.capacity
run_is_below s request first e = by ((run_is_free_one s request first).0 e)
  where
    by : ((n : ℕ) × (request ≡ TakeRun n) × IsFirstRun (complement s) 0 n (Some first))
        ⊎ ((n : ℕ) × (request ≡ TakeRunAt first n) × IsRun (complement s) n first) →
        first + length_of request ≤ s.capacity
    by (inl found) =
        let same : length_of request ≡ found.0 = ap length_of found.1 in
        let end : first + found.0 ≤ s.capacity = found.2.1.0 in
        omega (arith, same, end)
    by (inr chosen) =
        let same : length_of request ≡ chosen.0 = ap length_of chosen.1 in
        let end : first + chosen.0 ≤ s.capacity = chosen.2.0 in
        omega (arith, same, end)

-- each page of a list of answers is below the number of pages
pub pages_are_below : (s : PlainSet) (requests : List Request) (i page : ℕ) →
    slice_get (request_answers s requests) i ≡ Some (answer.Page page) → page < s.capacity
unfolding request_answers
pages_are_below s requests i page e = each_answer answer_to state_after (λ t. t.capacity)
    (λ c given. (p : ℕ) → given ≡ answer.Page p → p < c) (λ t request. (step t request).capacity)
    page_is_below s requests i (answer.Page page) e page refl

-- each run of a list of answers ends at or below the number of pages
pub runs_are_below : (s : PlainSet) (requests : List Request) (i : ℕ) (asked : Request)
    (first : ℕ) → slice_get requests i ≡ Some asked →
    slice_get (request_answers s requests) i ≡ Some (answer.Run first) →
    first + length_of asked ≤ s.capacity
unfolding request_answers
runs_are_below s [] i asked first is e = absurd (cc)
runs_are_below s (request ∷ requests) zero asked first is e =
    let same : length_of request ≡ length_of asked = ap length_of (some_is is) in
    omega (arith, same, run_is_below s request first (some_is e))
runs_are_below s (request ∷ requests) (suc i) asked first is e = omega (
  arith,
  (step s request).capacity,
  runs_are_below (state_after s request) requests i asked first is e,
)

pub answers_are_below : (s : PlainSet) (requests : List Request) (i : ℕ) →
    ((page : ℕ) → slice_get (request_answers s requests) i ≡ Some (answer.Page page) →
    page < s.capacity)
    × ((request : Request) (first : ℕ) → slice_get requests i ≡ Some request →
    slice_get (request_answers s requests) i ≡ Some (answer.Run first) →
    first + length_of request ≤ s.capacity)
answers_are_below s requests i = (pages_are_below s requests i, runs_are_below s requests i)
