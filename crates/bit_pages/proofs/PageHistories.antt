-- What follows from the page machine for every history: to which state an answer belongs, how many
-- pages are taken, and which are outstanding.
use Rattle.std.proofs.Common.{◌≡◌, ◌≢◌, ℕ, zero, suc, ◌+◌, ◌<◌, ◌≤◌, Bool, true, false, not, cond}
use Rattle.std.proofs.Common.{◌&&◌, ◌||◌, ◌==◌, Option, Some, None, List, [], ◌∷◌, ◌++◌, inl, inr}
use Rattle.std.proofs.Common.{refl, sym, ap, ◌∙◌, arith}
use Rattle.std.specs.List.{filter, list_any, IsDistinct, AllByRecursion}
use Rattle.std.proofs.lemmas.Cmp.{nat_eq_equiv}
use Rattle.std.proofs.Math.Bool.{and-true, and-false, or_comm, or-false}
use Rattle.std.proofs.lemmas.Bool.{cases_eq, cases_lt, eqb-true, eq-eqb, ne_eqb, or_from, or_parts}
use Rattle.std.proofs.lemmas.Bool.{true≢false}
use Rattle.std.proofs.lemmas.List.Folds.{list_any-append}
use Rattle.std.proofs.lemmas.Map.Keys.{IsDistinct-head, IsDistinct-tail, IsDistinct-cons}
use Rattle.std.proofs.lemmas.Map.Keys.{IsDistinct-push}
use Rattle.std.proofs.lemmas.Map.Views.{any-filter_same}
use Rattle.std.specs.Prelude.{MatchOption}
use Rattle.bittle.specs.PlainSet.{PlainSet, complement, is_in_span, size}
use Rattle.bittle_bits.proofs.Spans.{is_in_span-inside, is_in_span-outside}
use Rattle.bittle_ext.specs.Runs.{IsFirstRun, IsRun}
use Rattle.bittle_ext.proofs.RunCounts.{run_is_unset}
use Rattle.bit_histories.specs.Histories.{total}
use Rattle.bit_pages.specs.PageLaws.{IsLeastFree, asks_back, hands_out, pages_back}
use Rattle.bit_pages.specs.PageLaws.{pages_handed_out, held_with, held_after, held_after_list}
use Rattle.bit_pages.specs.PageLaws.{outstanding, gives_back, came_back, AreOutstanding}
use Rattle.bit_pages.specs.Pages.{is_taken, is_free_page, is_run_free, is_run_taken, least_free}
use Rattle.bit_pages.specs.Pages.{first_free_run, page_or_full, run_or_none, answer_to, state_after}
use Rattle.bit_pages.specs.Pages.{request_answers, final_state}
use Rattle.bit_pages.specs.declared.Answer.TheVariants as answer
use Rattle.bit_pages.specs.declared.Request.{Request}
use Rattle.bit_pages.specs.declared.Request.TheVariants.{Take, TakeAt, GiveBack, TakeRun}
use Rattle.bit_pages.specs.declared.Request.TheVariants.{TakeRunAt, GiveBackRun}
use Rattle.bit_pages.proofs.FreeRuns.{first_free_run-is, run_taken}
use Rattle.bit_pages.proofs.LeastFree.{least_free-is, free_page}
use Rattle.bit_pages.proofs.PageSteps.{step}

-- the pages of a list of requests add up, as `PagesAreCounted` states
pub counted : (s : PlainSet) (requests : List Request) →
    size (final_state s requests) + total pages_back requests (request_answers s requests)
    ≡ size s + total pages_handed_out requests (request_answers s requests)
unfolding request_answers final_state total
counted s [] = refl
counted s (request ∷ requests) =
    omega (arith, (step s request).counts, counted (state_after s request) requests)

-- a filtered list has a page if the list has it and the filter keeps it
kept_by : (goes : ℕ → Bool) (q : ℕ) (held : List ℕ) →
    list_any (◌==◌ q) (filter (λ p. not (goes p)) held)
    ≡ (not (goes q) && list_any (◌==◌ q) held)
kept_by goes q held = any-filter_same (◌==◌ q) (λ p. not (goes p)) (not (goes q))
    (λ k e. ap (λ n. not (goes n)) (sym (eqb-true q k e))) held

-- a page that differs from each page of a list differs from each page of the filtered list
filter_apart : (test : ℕ → Bool) (page : ℕ) (held : List ℕ) →
    AllByRecursion (λ p. (page == p) ≡ false) held →
    AllByRecursion (λ p. (page == p) ≡ false) (filter test held)
filter_apart test page [] a = tt
filter_apart test page (p ∷ held) a = by (test p) (filter_apart test page held a.1)
  where
    by : (b : Bool) → AllByRecursion (λ p. (page == p) ≡ false) (filter test held) →
        AllByRecursion (λ p. (page == p) ≡ false) (cond b (p ∷ filter test held) (filter test held))
    by true rest = (a.0, rest)
    by false rest = rest

nothing_distinct : IsDistinct ◌==◌ []
unfolding IsDistinct
nothing_distinct = tt

-- distinct pages stay distinct under a filter
filter_distinct : (test : ℕ → Bool) (held : List ℕ) → IsDistinct ◌==◌ held →
    IsDistinct ◌==◌ (filter test held)
filter_distinct test [] d = d
filter_distinct test (p ∷ held) d =
    by (test p) (filter_distinct test held (IsDistinct-tail ◌==◌ p held d))
  where
    by : (b : Bool) → IsDistinct ◌==◌ (filter test held) →
        IsDistinct ◌==◌ (cond b (p ∷ filter test held) (filter test held))
    by true rest = IsDistinct-cons ◌==◌ p (filter test held)
        (filter_apart test p held (IsDistinct-head ◌==◌ p held d)) rest
    by false rest = rest

-- a list with one more page has that page and its old pages
any_push : (q page : ℕ) (held : List ℕ) →
    list_any (◌==◌ q) (held ++ page ∷ []) ≡ (list_any (◌==◌ q) held || (q == page))
any_push q page held = list_any-append (◌==◌ q) held (page ∷ [])
    ∙ ap (λ b. list_any (◌==◌ q) held || b) (or-false (q == page))

-- a list with n more pages, from `first` on, has these pages and its old ones
any_with : (q : ℕ) (held : List ℕ) (first n : ℕ) → list_any (◌==◌ q) (held_with held first n)
    ≡ (is_in_span first (first + n) q || list_any (◌==◌ q) held)
any_with q held first zero =
    sym (ap (λ b. b || list_any (◌==◌ q) held) (elim (cases_lt q first) [
      | inl l ↦ is_in_span-outside first (first + 0) q (inl l)
      | inr g ↦ is_in_span-outside first (first + 0) q (inr (omega arith))
    ]))
any_with q held first (suc n) = any_with q (held ++ first ∷ []) (suc first) n
    ∙ ap (λ b. is_in_span (suc first) (suc first + n) q || b) (any_push q first held)
    ∙ elim (cases_eq q first) [
      | inl is ↦ ap (λ b. is_in_span (suc first) (suc first + n) q
          || (list_any (◌==◌ q) held || b)) (eq-eqb q first is)
          ∙ both (is_in_span (suc first) (suc first + n) q) (list_any (◌==◌ q) held)
          ∙ sym (ap (λ b. b || list_any (◌==◌ q) held)
          (is_in_span-inside first (first + suc n) q (omega arith) (omega arith)))
      | inr apart ↦ ap (λ b. is_in_span (suc first) (suc first + n) q
          || (list_any (◌==◌ q) held || b)) (ne_eqb q first apart)
          ∙ ap (λ b. is_in_span (suc first) (suc first + n) q || b)
          (or-false (list_any (◌==◌ q) held))
          ∙ ap (λ b. b || list_any (◌==◌ q) held) (further apart)
    ]
  where
    both : (x y : Bool) → (x || (y || true)) ≡ true
    both true y = refl
    both false true = refl
    both false false = refl

    further : q ≢ first →
        is_in_span (suc first) (suc first + n) q ≡ is_in_span first (first + suc n) q
    further apart = elim (cases_lt q first) [
      | inl l ↦ is_in_span-outside (suc first) (suc first + n) q (inl (omega arith))
          ∙ sym (is_in_span-outside first (first + suc n) q (inl l))
      | inr g ↦ elim (cases_lt q (first + suc n)) [
        | inl l ↦ is_in_span-inside (suc first) (suc first + n) q (omega arith) (omega arith)
            ∙ sym (is_in_span-inside first (first + suc n) q g l)
        | inr h ↦ is_in_span-outside (suc first) (suc first + n) q (inr (omega arith))
            ∙ sym (is_in_span-outside first (first + suc n) q (inr h))
      ]
    ]

-- if n more pages are held that were not held before, the pages stay distinct
with_distinct : (held : List ℕ) (first n : ℕ) → IsDistinct ◌==◌ held →
    ((k : ℕ) → first ≤ k → k < first + n → list_any (◌==◌ k) held ≡ false) →
    IsDistinct ◌==◌ (held_with held first n)
with_distinct held first zero d none = d
with_distinct held first (suc n) d none =
    with_distinct (held ++ first ∷ []) (suc first) n
    (IsDistinct-push nat_eq_equiv held first d (none first (omega arith) (omega arith)))
    (λ k p q. any_push k first held ∙ or_from (list_any (◌==◌ k) held) (k == first)
    (none k (omega arith) (omega arith)) (ne_eqb k first (λ e. absurd (omega arith))))

-- a page is kept after two requests if neither gives it back
kept_twice : (kept one more : Bool) → ((kept && not one) && not more) ≡ (kept && not (one || more))
kept_twice false one more = refl
kept_twice true true more = refl
kept_twice true false more = refl

-- two ways to write that a page is still taken after a request agree
still_taken : (out back held kept : Bool) →
    (out || (not back && (held || kept))) ≡ ((out || (not back && held)) || (kept && not back))
still_taken true back held kept = refl
still_taken false true held true = refl
still_taken false true held false = refl
still_taken false false true kept = refl
still_taken false false false true = refl
still_taken false false false false = refl

-- a page that is held after a request is not kept after it
still_apart : (out back held kept : Bool) → (out ≡ true → (held || kept) ≡ false) →
    (held ≡ true → kept ≡ false) → (out || (not back && held)) ≡ true →
    (kept && not back) ≡ false
still_apart out back held false free apart e = refl
still_apart out true held true free apart e = refl
still_apart true false held true free apart e =
    let none = or_parts held true (free refl) in absurd (true≢false none.1)
still_apart false false held true free apart e = absurd (true≢false (apart e))

-- the pages that are taken are those that are held, and those that were taken before and are kept
record AreHeld (s : PlainSet) (held : List ℕ) (kept : ℕ → Bool) : Type 0 where
  distinct : IsDistinct ◌==◌ held
  apart : (page : ℕ) → list_any (◌==◌ page) held ≡ true → kept page ≡ false
  taken : (page : ℕ) → s.has page ≡ (list_any (◌==◌ page) held || kept page)

-- `after` has the pages that were held and those handed out, without those that come back
record AreHeldAfter (held after : List ℕ) (out back : ℕ → Bool) : Type 0 where
  distinct : IsDistinct ◌==◌ after
  any : (page : ℕ) → list_any (◌==◌ page) after
      ≡ (out page || (not (back page) && list_any (◌==◌ page) held))

-- if no page is handed out and none comes back, the same pages are held
same_held : (held : List ℕ) (back : ℕ → Bool) → ((page : ℕ) → back page ≡ false) →
    IsDistinct ◌==◌ held → AreHeldAfter held held (λ _. false) back
same_held held back none d = record {
  distinct = d;
  any = λ page. sym (ap (λ b. not b && list_any (◌==◌ page) held) (none page));
}

-- the pages that are held after each request
module _ (s : PlainSet) (held : List ℕ) (kept : ℕ → Bool) (h : AreHeld s held kept) where
  -- a page that is free is not held
  not_held : (page : ℕ) → s.has page ≡ false → list_any (◌==◌ page) held ≡ false
  not_held page e =
      (or_parts (list_any (◌==◌ page) held) (kept page) (sym (h.taken page) ∙ e)).0

  -- if a free page is handed out, it is held too
  held_page : (q : ℕ) → s.has q ≡ false →
      AreHeldAfter held (held ++ q ∷ []) (λ page. page == q) (λ _. false)
  held_page q free = record {
    distinct = IsDistinct-push nat_eq_equiv held q h.distinct (not_held q free);
    any = λ page. any_push page q held ∙ or_comm (list_any (◌==◌ page) held) (page == q);
  }

  held_take : (o : Option ℕ) → MatchOption o ((k : ℕ) → k < s.capacity → s.has k ≡ true)
      (IsLeastFree s) → AreHeldAfter held (held_after held Take (page_or_full o))
      (hands_out Take (page_or_full o)) (λ _. false)
  held_take None all = same_held held (λ _. false) (λ _. refl) h.distinct
  held_take (Some q) least = held_page q least.is_free

  held_chosen : (p : ℕ) (b : Bool) → b ≡ is_free_page s p →
      AreHeldAfter held (held_after held (TakeAt p) (cond b (answer.Page p) answer.NotFree))
      (hands_out (TakeAt p) (cond b (answer.Page p) answer.NotFree)) (λ _. false)
  held_chosen p false is = same_held held (λ _. false) (λ _. refl) h.distinct
  held_chosen p true is = held_page p (free_page s p (sym is)).1

  -- if a free run is handed out, it is held too
  held_pages : (f n : ℕ) → IsRun (complement s) n f →
      AreHeldAfter held (held_with held f n) (is_in_span f (f + n)) (λ _. false)
  held_pages f n run = record {
    distinct = with_distinct held f n h.distinct
        (λ k p q. not_held k (run_is_unset s n f run k p q));
    any = λ page. any_with page held f n;
  }

  held_run : (n : ℕ) (o : Option ℕ) → IsFirstRun (complement s) 0 n o →
      AreHeldAfter held (held_after held (TakeRun n) (run_or_none o))
      (hands_out (TakeRun n) (run_or_none o)) (λ _. false)
  held_run n None none = same_held held (λ _. false) (λ _. refl) h.distinct
  held_run n (Some f) first = held_pages f n first.1

  held_chosen_run : (f n : ℕ) (b : Bool) → b ≡ is_run_free s f n →
      AreHeldAfter held (held_after held (TakeRunAt f n) (cond b (answer.Run f) answer.NotFree))
      (hands_out (TakeRunAt f n) (cond b (answer.Run f) answer.NotFree)) (λ _. false)
  held_chosen_run f n false is = same_held held (λ _. false) (λ _. refl) h.distinct
  held_chosen_run f n true is = held_pages f n (run_taken (complement s) f n (sym is))

  held_back : (request : Request) (b : Bool) →
      AreHeldAfter held (held_after held request (cond b answer.Given answer.NotTaken))
      (hands_out request (cond b answer.Given answer.NotTaken))
      (λ page. asks_back request page && b)
  held_back request false = same_held held (λ page. asks_back request page && false)
      (λ page. and-false (asks_back request page)) h.distinct
  held_back request true = record {
    distinct = filter_distinct (λ r. not (asks_back request r)) held h.distinct;
    any = λ page. kept_by (asks_back request) page held
        ∙ sym (ap (λ b. not b && list_any (◌==◌ page) held) (and-true (asks_back request page)));
  }

  held_next : (request : Request) →
      AreHeldAfter held (held_after held request (answer_to s request))
      (hands_out request (answer_to s request)) (gives_back s request)
  held_next Take = held_take (least_free s) (least_free-is s)
  held_next (TakeAt p) = held_chosen p (is_free_page s p) refl
  held_next (GiveBack p) = held_back (GiveBack p) (is_taken s p)
  held_next (TakeRun n) = held_run n (first_free_run s n) (first_free_run-is s n)
  held_next (TakeRunAt f n) = held_chosen_run f n (is_run_free s f n) refl
  held_next (GiveBackRun f n) = held_back (GiveBackRun f n) (is_run_taken s f n)

  -- `AreHeld` still holds after a request
  held_on : (request : Request) →
      AreHeld (state_after s request) (held_after held request (answer_to s request))
      (λ page. kept page && not (gives_back s request page))
  held_on request =
      let one = step s request in
      let next = held_next request in
      let out = hands_out request (answer_to s request) in
      let back = gives_back s request in record {
        distinct = next.distinct;
        apart = λ page e. still_apart (out page) (back page) (list_any (◌==◌ page) held) (kept page)
            (λ given. sym (h.taken page) ∙ one.was_free page given) (h.apart page)
            (sym (next.any page) ∙ e);
        taken = λ page. one.has page
            ∙ ap (λ b. out page || (not (back page) && b)) (h.taken page)
            ∙ still_taken (out page) (back page) (list_any (◌==◌ page) held) (kept page)
            ∙ ap (λ b. b || (kept page && not (back page))) (sym (next.any page));
      }

-- `AreHeld` still holds after a list of requests
held_on_list : (s : PlainSet) (held : List ℕ) (kept : ℕ → Bool) (requests : List Request) →
    AreHeld s held kept →
    AreHeld (final_state s requests) (held_after_list held s requests)
    (λ page. kept page && not (came_back s requests page))
unfolding held_after_list came_back final_state
held_on_list s held kept [] h = record {
  distinct = h.distinct;
  apart = λ page e. ap (λ b. b && true) (h.apart page e);
  taken = λ page. h.taken page
      ∙ ap (λ b. list_any (◌==◌ page) held || b) (sym (and-true (kept page)));
}
held_on_list s held kept (request ∷ requests) h =
    let next = state_after s request in
    let later = held_on_list next (held_after held request (answer_to s request))
    (λ page. kept page && not (gives_back s request page)) requests
    (held_on s held kept h request) in
    let twice = λ (page : ℕ). kept_twice (kept page) (gives_back s request page)
    (came_back next requests page) in record {
      distinct = later.distinct;
      apart = λ page e. sym (twice page) ∙ later.apart page e;
      taken = λ page. later.taken page
          ∙ ap (λ b. list_any (◌==◌ page) (held_after_list held s (request ∷ requests))
          || b) (twice page);
    }

-- the pages outstanding after a list of requests
pub are_outstanding : (s : PlainSet) (requests : List Request) →
    AreOutstanding s requests (outstanding s requests)
are_outstanding s requests =
    let h = held_on_list s [] s.has requests (record {
      distinct = nothing_distinct;
      apart = λ page e. absurd (cc);
      taken = λ page. refl;
    }) in record { distinct = h.distinct; apart = h.apart; taken = h.taken }
