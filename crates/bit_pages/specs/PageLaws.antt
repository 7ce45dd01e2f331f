-- Laws of the page machine, for all requests and all lists of requests.
use Rattle.std.specs.List.{filter, list_any, IsDistinct}
use Rattle.std.specs.Prelude.{◌≡◌, ℕ, zero, suc, ◌+◌, ◌<◌, ◌≤◌, ◌↔◌, ◌⊎◌, Bool, true, false, not}
use Rattle.std.specs.Prelude.{◌&&◌, ◌||◌, ◌==◌, Some, List, [], ◌∷◌, ◌++◌, slice_get}
use Rattle.bittle.specs.PlainSet.{PlainSet, complement, is_in_span, size}
use Rattle.bittle_ext.specs.Runs.{IsFirstRun, IsRun}
use Rattle.bit_histories.specs.Histories.{total}
use Rattle.bit_pages.specs.Pages.{is_taken, is_run_taken, answer_to, state_after, request_answers}
use Rattle.bit_pages.specs.Pages.{final_state}
use Rattle.bit_pages.specs.declared.Request.{Request}
use Rattle.bit_pages.specs.declared.Request.TheVariants.{Take, TakeAt, GiveBack, TakeRun}
use Rattle.bit_pages.specs.declared.Request.TheVariants.{TakeRunAt, GiveBackRun}
use Rattle.bit_pages.specs.declared.Answer.{Answer}
use Rattle.bit_pages.specs.declared.Answer.TheVariants.{Page, Full, NotFree, Given, NotTaken, Run}
use Rattle.bit_pages.specs.declared.Answer.TheVariants.{NoRun}

-- the number is a page, it is free, and all pages below it are taken
pub record IsLeastFree (s : PlainSet) (page : ℕ) : Type 0 where
  pub within : page < s.capacity
  pub is_free : s.has page ≡ false
  pub taken_below : (k : ℕ) → k < page → s.has k ≡ true

-- the number is a page, and it is free
abbrev pub IsFree : PlainSet → ℕ → Type 0
IsFree s page = (page < s.capacity) × (s.has page ≡ false)

-- a page is answered exactly if any page is asked for and this page is the least free one, or if
-- this page is asked for and free
abbrev pub PagesAreFree : Type 0
PagesAreFree =
    (s : PlainSet) (request : Request) (page : ℕ)
    → (answer_to s request ≡ Page page)
    ↔ (((request ≡ Take) × IsLeastFree s page) ⊎ ((request ≡ TakeAt page) × IsFree s page))

-- a run of pages is answered exactly if any run of a length is asked for and this run is the first
-- free one, or if this run is asked for and free
abbrev pub RunsAreFree : Type 0
RunsAreFree =
    (s : PlainSet) (request : Request) (first : ℕ)
    → (answer_to s request ≡ Run first)
    ↔ (((length : ℕ) × (request ≡ TakeRun length)
    × IsFirstRun (complement s) 0 length (Some first))
    ⊎ ((length : ℕ) × (request ≡ TakeRunAt first length) × IsRun (complement s) length first))

-- Full is answered exactly if any page is asked for and all pages are taken
abbrev pub FullExactlyIfAllAreTaken : Type 0
FullExactlyIfAllAreTaken =
    (s : PlainSet) (request : Request)
    → (answer_to s request ≡ Full) ↔ ((request ≡ Take) × (size s ≡ s.capacity))

-- NotFree is answered exactly if one page is asked for that is not a free page, or one run that is
-- not a free run
abbrev pub NotFreeExactlyIfNotFree : Type 0
NotFreeExactlyIfNotFree =
    (s : PlainSet) (request : Request)
    → (answer_to s request ≡ NotFree)
    ↔ (((page : ℕ) × (request ≡ TakeAt page) × (IsFree s page → ⊥))
    ⊎ ((first : ℕ) × (length : ℕ) × (request ≡ TakeRunAt first length)
    × (IsRun (complement s) length first → ⊥)))

-- NoRun is answered exactly if any run of a length is asked for and no free run has that length
abbrev pub NoRunExactlyIfNoneIsFree : Type 0
NoRunExactlyIfNoneIsFree =
    (s : PlainSet) (request : Request)
    → (answer_to s request ≡ NoRun) ↔ ((length : ℕ) × (request ≡ TakeRun length)
    × ((first : ℕ) → IsRun (complement s) length first → ⊥))

-- Given is answered exactly if one page is given back that is taken, or one run of taken pages
abbrev pub GivenExactlyIfTaken : Type 0
GivenExactlyIfTaken =
    (s : PlainSet) (request : Request)
    → (answer_to s request ≡ Given)
    ↔ (((page : ℕ) × (request ≡ GiveBack page) × (is_taken s page ≡ true))
    ⊎ ((first : ℕ) × (length : ℕ) × (request ≡ GiveBackRun first length) × IsRun s length first))

-- NotTaken is answered exactly if one page is given back that is not taken, or one run that is not
-- a run of taken pages
abbrev pub NotTakenExactlyIfNotTaken : Type 0
NotTakenExactlyIfNotTaken =
    (s : PlainSet) (request : Request)
    → (answer_to s request ≡ NotTaken)
    ↔ (((page : ℕ) × (request ≡ GiveBack page) × (is_taken s page ≡ false))
    ⊎ ((first : ℕ) × (length : ℕ) × (request ≡ GiveBackRun first length)
    × (IsRun s length first → ⊥)))

-- how many pages a request asks for, or gives back
abbrev pub length_of : Request → ℕ
length_of Take = 1
length_of (TakeAt page) = 1
length_of (GiveBack page) = 1
length_of (TakeRun length) = length
length_of (TakeRunAt first length) = length
length_of (GiveBackRun first length) = length

-- whether an answer refuses the request
abbrev pub is_refused : Answer → Bool
is_refused (Page page) = false
is_refused Full = true
is_refused NotFree = true
is_refused Given = false
is_refused NotTaken = true
is_refused (Run first) = false
is_refused NoRun = true

-- a request changes nothing exactly if it is refused, or if it takes or gives back a run of length
-- 0
abbrev pub UnchangedExactlyIfRefused : Type 0
UnchangedExactlyIfRefused =
    (s : PlainSet) (request : Request)
    → (state_after s request ≡ s)
    ↔ ((is_refused (answer_to s request) ≡ true) ⊎ (length_of request ≡ 0))

-- no list of requests changes how many pages there are
abbrev pub PagesStay : Type 0
PagesStay = (s : PlainSet) (requests : List Request) →
    (final_state s requests).capacity ≡ s.capacity

-- in every list, each page that is answered is below the number of pages, and each run that is
-- answered ends at or below it
abbrev pub AnswersAreBelow : Type 0
AnswersAreBelow =
    (s : PlainSet) (requests : List Request) (i : ℕ)
    → ((page : ℕ) → slice_get (request_answers s requests) i ≡ Some (Page page)
    → page < s.capacity)
    × ((request : Request) (first : ℕ) → slice_get requests i ≡ Some request
    → slice_get (request_answers s requests) i ≡ Some (Run first)
    → first + length_of request ≤ s.capacity)

-- how many pages an answer to a request hands out
abbrev pub pages_handed_out : Request → Answer → ℕ
pages_handed_out request (Page page) = 1
pages_handed_out request Full = 0
pages_handed_out request NotFree = 0
pages_handed_out request Given = 0
pages_handed_out request NotTaken = 0
pages_handed_out request (Run first) = length_of request
pages_handed_out request NoRun = 0

-- how many pages a request with this answer gave back
abbrev pub pages_back : Request → Answer → ℕ
pages_back request (Page page) = 0
pages_back request Full = 0
pages_back request NotFree = 0
pages_back request Given = length_of request
pages_back request NotTaken = 0
pages_back request (Run first) = 0
pages_back request NoRun = 0

-- the number of pages taken after a list of requests, plus the number that the list gave back, is
-- the number taken before the list, plus the number that the list handed out
abbrev pub PagesAreCounted : Type 0
PagesAreCounted =
    (s : PlainSet) (requests : List Request)
    → size (final_state s requests) + total pages_back requests (request_answers s requests)
    ≡ size s + total pages_handed_out requests (request_answers s requests)

-- whether an answer to a request hands out the page `page`
abbrev pub hands_out : Request → Answer → ℕ → Bool
hands_out request (Page p) page = page == p
hands_out request Full page = false
hands_out request NotFree page = false
hands_out request Given page = false
hands_out request NotTaken page = false
hands_out request (Run first) page = is_in_span first (first + length_of request) page
hands_out request NoRun page = false

-- whether a request asks to free the page `page`
abbrev pub asks_back : Request → ℕ → Bool
asks_back Take page = false
asks_back (TakeAt p) page = false
asks_back (GiveBack p) page = page == p
asks_back (TakeRun length) page = false
asks_back (TakeRunAt first length) page = false
asks_back (GiveBackRun first length) page = is_in_span first (first + length) page

-- answer i to a list of requests hands out the page, alone or in a run of pages
pub record IsHandedOut (s : PlainSet) (requests : List Request) (i page : ℕ) : Type 0 where
  pub request : Request
  pub answer : Answer
  pub asked : slice_get requests i ≡ Some request
  pub answered : slice_get (request_answers s requests) i ≡ Some answer
  pub has : hands_out request answer page ≡ true

-- request k of a list gave the page back, alone or in a run of pages
pub record IsGivenBack (s : PlainSet) (requests : List Request) (k page : ℕ) : Type 0 where
  pub request : Request
  pub asked : slice_get requests k ≡ Some request
  pub answered : slice_get (request_answers s requests) k ≡ Some Given
  pub has : asks_back request page ≡ true

-- a list of requests hands out a page that was taken before the list only after the list gave that
-- page back
abbrev pub TakenPagesComeBackFirst : Type 0
TakenPagesComeBackFirst =
    (s : PlainSet) (requests : List Request) (page j : ℕ)
    → page < s.capacity → s.has page ≡ true
    → IsHandedOut s requests j page
    → (k : ℕ) × (k < j) × IsGivenBack s requests k page

-- between two answers that hand out the same page, that page was given back
abbrev pub PagesComeBackBetween : Type 0
PagesComeBackBetween =
    (s : PlainSet) (requests : List Request) (page i j : ℕ)
    → i < j
    → IsHandedOut s requests i page
    → IsHandedOut s requests j page
    → (k : ℕ) × (i < k) × (k < j) × IsGivenBack s requests k page

-- the list of the held pages, and after them the n pages from page `first` on
abbrev pub held_with : List ℕ → ℕ → ℕ → List ℕ
held_with held first zero = held
held_with held first (suc n) = held_with (held ++ first ∷ []) (suc first) n

-- the pages that are held after a request and its answer: those that are handed out are held from
-- then on, those that are given back are not
abbrev pub held_after : List ℕ → Request → Answer → List ℕ
held_after held request (Page page) = held ++ page ∷ []
held_after held request Full = held
held_after held request NotFree = held
held_after held request Given = filter (λ page. not (asks_back request page)) held
held_after held request NotTaken = held
held_after held request (Run first) = held_with held first (length_of request)
held_after held request NoRun = held

-- the pages that are held after a list of requests, if `held` were held before it
unfoldable pub held_after_list : List ℕ → PlainSet → List Request → List ℕ
held_after_list held s [] = held
held_after_list held s (request ∷ requests) =
    held_after_list (held_after held request (answer_to s request)) (state_after s request) requests

-- the pages outstanding: those that a list of requests handed out, and that were not given back in
-- it since
abbrev pub outstanding : PlainSet → List Request → List ℕ
outstanding = held_after_list []

-- whether a request in the state s frees the page `page`, which was taken
abbrev pub gives_back : PlainSet → Request → ℕ → Bool
gives_back s Take page = false
gives_back s (TakeAt p) page = false
gives_back s (GiveBack p) page = (page == p) && is_taken s p
gives_back s (TakeRun length) page = false
gives_back s (TakeRunAt first length) page = false
gives_back s (GiveBackRun first length) page =
    is_in_span first (first + length) page && is_run_taken s first length

-- whether some request of a list, served from the state s on, frees the page `page`
unfoldable pub came_back : PlainSet → List Request → ℕ → Bool
came_back s [] page = false
came_back s (request ∷ requests) page = gives_back s request page
    || came_back (state_after s request) requests page

-- The pages in `held` are distinct. None of them was taken before the requests, unless one of the
-- requests gave it back. Together with the pages that were taken before and not given back, they
-- are the pages taken after the requests.
pub record AreOutstanding (s : PlainSet) (requests : List Request) (held : List ℕ) : Type 0 where
  pub distinct : IsDistinct ◌==◌ held
  pub apart : (page : ℕ) → list_any (◌==◌ page) held ≡ true →
      (s.has page && not (came_back s requests page)) ≡ false
  pub taken : (page : ℕ) → (final_state s requests).has page
      ≡ (list_any (◌==◌ page) held || (s.has page && not (came_back s requests page)))

-- for each list of requests, `AreOutstanding` holds of the pages outstanding after the list
abbrev pub PagesAreOutstanding : Type 0
PagesAreOutstanding =
    (s : PlainSet) (requests : List Request)
    → AreOutstanding s requests (outstanding s requests)
