-- Lists of requests and their answers, and histories of calls.
use Rattle.std.proofs.Common.{◌≡◌, ℕ, zero, suc, ◌<◌, ◌≤◌, Some, List, [], ◌∷◌, ◌++◌, length, take}
use Rattle.std.proofs.Common.{get_or, take_all, refl, sym, ap, ◌∙◌, subst, arith}
use Rattle.std.proofs.lemmas.Option.{same_Some, slice_get-get_or}
use Rattle.std.specs.List.{fold, scan}
use Rattle.std.specs.Prelude.{map, slice_get}
use Rattle.bit_histories.specs.Histories.{IsHistory, CallsAnswerAsLists, AnswersAreOfTheirStates}

-- If the answers to the first n requests are those of a machine, and there are no more than n
-- requests, then each answer is the machine's.
pub answer_served : {Q A : Type 0} (answers_of : List Q → List A) (requests : List Q)
    (answers : List A) (n i : ℕ) (d a : A) → length answers ≡ length requests →
    length requests ≤ n → take n answers ≡ answers_of (take n requests) → i < length answers →
    get_or answers i d ≡ a → slice_get (answers_of requests) i ≡ Some a
answer_served answers_of requests answers n i d a as_long end had within is =
    let all : answers ≡ answers_of requests =
    sym (take_all n answers (omega (arith, as_long, end))) ∙ had
    ∙ ap answers_of (take_all n requests end) in
    ap (λ l. slice_get l i) (sym all) ∙ slice_get-get_or answers i d within ∙ ap Some is

module _ {S Q A : Type 0} (answer_to : S → Q → A) (state_after : S → Q → S) where
  -- the calls of a history answer as the machine does on the list of their requests
  answers_as_list : (before after : S) (calls : List (Q × A)) →
      IsHistory answer_to state_after before calls after →
      (map (λ call. call.1) calls ≡ scan state_after answer_to before (map (λ call. call.0) calls))
      × (after ≡ fold state_after before (map (λ call. call.0) calls))
  answers_as_list before after [] is = (refl, is)
  answers_as_list before after (call ∷ calls) is =
      let later = answers_as_list is.0 after calls is.2 in
      let requests : List Q = map (λ call. call.0) calls in (
        ap (λ a. a ∷ map (λ call. call.1) calls) is.1.answered
            ∙ ap (λ rest. answer_to before call.0 ∷ rest) (later.0
            ∙ ap (λ s. scan state_after answer_to s requests) is.1.left),
        later.1 ∙ ap (λ s. fold state_after s requests) is.1.left,
      )

  -- calls that answer as the machine does on the list of their requests are a history
  is_history : (before after : S) (calls : List (Q × A)) →
      map (λ call. call.1) calls ≡ scan state_after answer_to before (map (λ call. call.0) calls) →
      after ≡ fold state_after before (map (λ call. call.0) calls) →
      IsHistory answer_to state_after before calls after
  is_history before after [] answers last = last
  is_history before after (call ∷ calls) answers last =
      let next = state_after before call.0 in
      let first : call.1 ≡ answer_to before call.0 = cc in
      let rest : map (λ call. call.1) calls
      ≡ scan state_after answer_to next (map (λ call. call.0) calls) = cc in
      (next, record { answered = first; left = refl }, is_history next after calls rest last)

  pub history_is_list : CallsAnswerAsLists answer_to state_after (scan state_after answer_to)
      (fold state_after)
  history_is_list before after calls = (
    answers_as_list before after calls,
    λ is. is_history before after calls is.0 is.1,
  )

  pub answered_at : AnswersAreOfTheirStates answer_to state_after (scan state_after answer_to)
      (fold state_after)
  answered_at s [] i = refl
  answered_at s (request ∷ requests) zero = refl
  answered_at s (request ∷ requests) (suc i) = answered_at (state_after s request) requests i

  -- if no request changes the value `of` the state, and each answer `Fits` this value, then so does
  -- each answer of a list
  pub each_answer : {K : Type 0} (of : S → K) (Fits : K → A → Type 0) →
      ((s : S) (request : Q) → of (state_after s request) ≡ of s) →
      ((s : S) (request : Q) → Fits (of s) (answer_to s request)) →
      (s : S) (requests : List Q) (i : ℕ) (answer : A) →
      slice_get (scan state_after answer_to s requests) i ≡ Some answer → Fits (of s) answer
  each_answer of Fits keeps each s [] i answer e = absurd (cc)
  each_answer of Fits keeps each s (request ∷ requests) zero answer e =
      subst (Fits (of s)) (same_Some _ _ e) (each s request)
  each_answer of Fits keeps each s (request ∷ requests) (suc i) answer e =
      subst (λ k. Fits k answer) (keeps s request)
      (each_answer of Fits keeps each (state_after s request) requests i answer e)

  -- two histories, the second from where the first ends, are one history
  pub histories_join : (before between after : S) (first second : List (Q × A)) →
      IsHistory answer_to state_after before first between →
      IsHistory answer_to state_after between second after →
      IsHistory answer_to state_after before (first ++ second) after
  histories_join before between after [] second is later =
      subst (λ s. IsHistory answer_to state_after s second after) is later
  histories_join before between after (call ∷ first) second is later =
      (is.0, is.1, histories_join is.0 between after first second is.2 later)
