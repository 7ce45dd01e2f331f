-- Histories of calls on a machine, which answers each request in each state, and goes to another.
use Rattle.std.specs.Prelude.{◌≡◌, ◌↔◌, ◌+◌, ℕ, List, [], ◌∷◌, map, option_map, slice_get, take}

-- the machine with these answers to requests, and these states after them
module _ {S Q A : Type 0} (answer_to : S → Q → A) (state_after : S → Q → S) where
  -- a call gives the machine's answer to the request, and leaves the machine's next state
  pub record IsCall (before : S) (request : Q) (answer : A) (after : S) : Type 0 where
    pub answered : answer ≡ answer_to before request
    pub left : after ≡ state_after before request

  -- calls that are made one after the other, from the state `before` to the state `after`: each has
  -- a request and an answer
  abbrev pub IsHistory : S → List (Q × A) → S → Type 0
  IsHistory before [] after = after ≡ before
  IsHistory before (call ∷ calls) after =
      (between : S) × IsCall before call.0 call.1 between × IsHistory between calls after

  -- calls are a history exactly if they give the machine's answers to the list of their requests,
  -- and leave the machine's last state: those that `answers` and `last_state` tell
  abbrev pub CallsAnswerAsLists : (S → List Q → List A) → (S → List Q → S) → Type 0
  CallsAnswerAsLists answers last_state =
      (before after : S) (calls : List (Q × A)) → IsHistory before calls after
      ↔ ((map (λ call. call.1) calls ≡ answers before (map (λ call. call.0) calls))
      × (after ≡ last_state before (map (λ call. call.0) calls)))

  -- there is an answer i exactly if there is a request i: the answer to this request in the state
  -- that the requests before it leave
  abbrev pub AnswersAreOfTheirStates : (S → List Q → List A) → (S → List Q → S) → Type 0
  AnswersAreOfTheirStates answers last_state =
      (s : S) (requests : List Q) (i : ℕ)
      → slice_get (answers s requests) i
      ≡ option_map (answer_to (last_state s (take i requests))) (slice_get requests i)

-- the sum of `count` over all requests of a list, each with its answer
unfoldable pub total : {Q A : Type 0} → (Q → A → ℕ) → List Q → List A → ℕ
total count [] answers = 0
total count (request ∷ requests) [] = 0
total count (request ∷ requests) (answer ∷ answers) =
    count request answer + total count requests answers
