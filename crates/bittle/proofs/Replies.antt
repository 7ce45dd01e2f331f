-- Runs of requests over any types. Each request has a next state and a reply: a run is a `fold` of
-- the states and a `scan` of the replies.
use Rattle.std.proofs.Common.{◌≡◌, ℕ, ◌+◌, ◌<◌, List, [], ◌∷◌, ◌++◌, length, take, set, get_or}
use Rattle.std.proofs.Common.{refl, sym, ap, ◌∙◌}
use Rattle.std.specs.List.{fold, scan}
use Rattle.std.proofs.lemmas.List.{take_more, take_more_set}
use Rattle.std.proofs.lemmas.List.Sums.{fold_more}

-- if no request changes a value that is computed from the state, neither does a run
pub run_keeps : {S X K : Type 0} (next : S → X → S) (of : S → K) →
    ((s : S) (x : X) → of (next s x) ≡ of s) → (s : S) (xs : List X) → of (fold next s xs) ≡ of s
run_keeps next of keeps s [] = refl
run_keeps next of keeps s (x ∷ xs) = run_keeps next of keeps (next s x) xs ∙ keeps s x

-- the last request is answered from the state that the others leave
scan_push : {S X Y : Type 0} (next : S → X → S) (out : S → X → Y) (s : S) (xs : List X) (x : X) →
    scan next out s (xs ++ x ∷ []) ≡ scan next out s xs ++ out (fold next s xs) x ∷ []
scan_push next out s [] x = refl
scan_push next out s (y ∷ xs) x = ap (λ rs. out s y ∷ rs) (scan_push next out (next s y) xs x)

-- the requests before place i lead from the state `start` to the state `now`, and there is a
-- request at i
module _ {S X : Type 0} (next : S → X → S) (start now : S) (xs : List X) (i : ℕ) (d : X)
    (h : i < length xs) (so_far : now ≡ fold next start (take i xs)) where
  -- the state after one more request
  pub state_step : (after : S) → after ≡ next now (get_or xs i d) →
      after ≡ fold next start (take (i + 1) xs)
  state_step after e = e ∙ ap (λ s. next s (get_or xs i d)) so_far
      ∙ sym (fold_more next start xs i d h)

  -- the replies after one more request
  pub replies_step : {Y : Type 0} (out : S → X → Y) (rs : List Y) (r : Y) → i < length rs →
      take i rs ≡ scan next out start (take i xs) → r ≡ out now (get_or xs i d) →
      take (i + 1) (set rs i r) ≡ scan next out start (take (i + 1) xs)
  replies_step out rs r l had e =
      take_more_set rs i r l
      ∙ ap (λ q. take i rs ++ q ∷ []) (e ∙ ap (λ s. out s (get_or xs i d)) so_far)
      ∙ ap (λ qs. qs ++ out (fold next start (take i xs)) (get_or xs i d) ∷ []) had
      ∙ sym (ap (scan next out start) (take_more xs i d h) ∙ scan_push next out start (take i xs)
      (get_or xs i d))
