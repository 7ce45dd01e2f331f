-- Laws of every list of events, for any machine with these properties: only ready tasks run, a task
-- that runs or is removed is no longer ready, and a task becomes ready only by a wake.
use Rattle.std.proofs.Common.{◌≡◌, ℕ, zero, suc, ◌+◌, ◌<◌, ◌⊎◌, Bool, true, false, List, [], ◌∷◌}
use Rattle.std.proofs.Common.{Some, inl, inr, sym, ap, ◌∙◌, arith}
use Rattle.std.specs.List.{fold, scan}
use Rattle.std.specs.Prelude.{slice_get}
use Rattle.std.proofs.lemmas.Bool.{cases_Bool, true≢false}
use Rattle.bit_queue.specs.QueueLaws.{IsTakenAt, IsLeftReady, NeverTakenFrom}
use Rattle.bit_queue.specs.declared.Answer.{Answer}
use Rattle.bit_queue.specs.declared.Answer.TheVariants.{Runs}
use Rattle.bit_queue.specs.declared.Event.{Event}
use Rattle.bit_queue.specs.declared.Event.TheVariants.{Wake, Remove}

-- the first event of a list takes the task out if the task is taken out at the place 0
taken_first : (event : Event) (events : List Event) (answer : Answer) (answers : List Answer)
    (task : ℕ) → IsTakenAt (event ∷ events) (answer ∷ answers) task zero →
    (answer ≡ Runs task) ⊎ (event ≡ Remove task)
taken_first event events answer answers task (inl e) = inl (cc)
taken_first event events answer answers task (inr e) = inr (cc)

-- an empty list takes no task out
never_taken : (task k : ℕ) → IsTakenAt [] [] task k → ⊥
never_taken task k (inl e) = cc
never_taken task k (inr e) = cc

module _ {S : Type 0} (answer : S → Event → Answer) (after : S → Event → S) (ready : S → ℕ → Bool)
    (runs_ready : (s : S) (event : Event) (task : ℕ) → answer s event ≡ Runs task →
    ready s task ≡ true)
    (rests : (s : S) (event : Event) (task : ℕ) →
    (answer s event ≡ Runs task) ⊎ (event ≡ Remove task) → ready (after s event) task ≡ false)
    (wakes : (s : S) (event : Event) (task : ℕ) → ready s task ≡ false →
    (ready (after s event) task ≡ false) ⊎ (event ≡ Wake task)) where
  -- a task that is not ready runs only after it was woken
  pub woken_first : (s : S) (events : List Event) (task : ℕ) → ready s task ≡ false → (j : ℕ) →
      slice_get (scan after answer s events) j ≡ Some (Runs task) →
      (k : ℕ) × (k < j) × (slice_get events k ≡ Some (Wake task))
  woken_first s [] task none j e = absurd (cc)
  woken_first s (event ∷ events) task none zero e =
      let is : answer s event ≡ Runs task = cc in
      absurd (true≢false (sym (runs_ready s event task is) ∙ none))
  woken_first s (event ∷ events) task none (suc j) e =
      elim (wakes s event task none) [
        | inl stays ↦
            let later = woken_first (after s event) events task stays j e in
            (suc later.0, omega (arith, later.1), later.2)
        | inr woken ↦ (zero, omega arith, ap Some woken)
      ]

  -- a task that was taken out runs only after it was woken again
  pub woken_since : (s : S) (events : List Event) (task i j : ℕ) → i < j →
      IsTakenAt events (scan after answer s events) task i →
      slice_get (scan after answer s events) j ≡ Some (Runs task) →
      (k : ℕ) × (i < k) × (k < j) × (slice_get events k ≡ Some (Wake task))
  woken_since s events task i zero h a b = absurd (omega arith)
  woken_since s [] task i (suc j) h a b = absurd (cc)
  woken_since s (event ∷ events) task zero (suc j) h a b =
      let out = taken_first event events (answer s event)
      (scan after answer (after s event) events) task a in
      let later = woken_first (after s event) events task (rests s event task out) j b in
      (suc later.0, omega arith, omega (arith, later.1), later.2)
  woken_since s (event ∷ events) task (suc i) (suc j) h a b =
      let later = woken_since (after s event) events task i j (omega arith) a b in
      (suc later.0, omega (arith, later.1), omega (arith, later.2), later.3)

-- Which tasks are ready after a list of events. Besides, no event of the machine changes the number
-- of tasks, a ready task that neither runs nor is removed stays ready, and a task that is woken is
-- ready.
module _ {S : Type 0} (answer : S → Event → Answer) (after : S → Event → S) (tasks : S → ℕ)
    (ready : S → ℕ → Bool)
    (rests : (s : S) (event : Event) (task : ℕ) →
    (answer s event ≡ Runs task) ⊎ (event ≡ Remove task) → ready (after s event) task ≡ false)
    (wakes : (s : S) (event : Event) (task : ℕ) → ready s task ≡ false →
    (ready (after s event) task ≡ false) ⊎ (event ≡ Wake task))
    (keeps : (s : S) (event : Event) → tasks (after s event) ≡ tasks s)
    (stays : (s : S) (event : Event) (task : ℕ) → ready s task ≡ true →
    (answer s event ≡ Runs task → ⊥) → (event ≡ Remove task → ⊥) →
    ready (after s event) task ≡ true)
    (woken : (s : S) (task : ℕ) → task < tasks s → ready (after s (Wake task)) task ≡ true) where
  -- a ready task that is not taken out stays ready
  ready_stays : (s : S) (events : List Event) (task : ℕ) → ready s task ≡ true →
      NeverTakenFrom 0 events (scan after answer s events) task →
      ready (fold after s events) task ≡ true
  ready_stays s [] task is never = is
  ready_stays s (event ∷ events) task is never =
      ready_stays (after s event) events task
      (stays s event task is (λ e. never zero (omega arith) (inl (ap Some e)))
      (λ e. never zero (omega arith) (inr (ap Some e))))
      (λ j from out. never (suc j) (omega arith) out)

  -- a task that is woken, and is not taken out after that, stays ready
  woken_stays : (s : S) (events : List Event) (task k : ℕ) → task < tasks s →
      slice_get events k ≡ Some (Wake task) →
      NeverTakenFrom (k + 1) events (scan after answer s events) task →
      ready (fold after s events) task ≡ true
  woken_stays s [] task k h asked never = absurd (cc)
  woken_stays s (event ∷ events) task zero h asked never =
      let is : Wake task ≡ event = cc in
      ready_stays (after s event) events task
      (ap (λ x. ready (after s x) task) (sym is) ∙ woken s task h)
      (λ j from out. never (suc j) (omega arith) out)
  woken_stays s (event ∷ events) task (suc k) h asked never =
      woken_stays (after s event) events task k (omega (arith, h, keeps s event)) asked
      (λ j from out. never (suc j) (omega (arith, from)) out)

  -- a task that the events and their answers leave ready is ready
  pub is_left : (s : S) (events : List Event) (task : ℕ) → task < tasks s →
      IsLeftReady (ready s task) events (scan after answer s events) task →
      ready (fold after s events) task ≡ true
  is_left s events task h (inl was) = ready_stays s events task was.0 was.1
  is_left s events task h (inr at) = woken_stays s events task at.0 h at.1 at.2

  -- a task that is ready was left ready
  pub was_left : (s : S) (events : List Event) (task : ℕ) →
      ready (fold after s events) task ≡ true →
      IsLeftReady (ready s task) events (scan after answer s events) task
  was_left s [] task is = inl (is, λ j from out. never_taken task j out)
  was_left s (event ∷ events) task is = by (was_left (after s event) events task is)
    where
      later : List Answer
      later = scan after answer (after s event) events

      by : IsLeftReady (ready (after s event) task) events later task →
          IsLeftReady (ready s task) (event ∷ events) (answer s event ∷ later) task
      by (inr at) = inr (suc at.0, at.1, past)
        where
          past : NeverTakenFrom (suc at.0 + 1) (event ∷ events) (answer s event ∷ later) task
          past zero from out = absurd (omega (arith, from))
          past (suc j) from out = at.2 j (omega (arith, from)) out
      by (inl now) = elim (cases_Bool (ready s task)) [
        | inl was ↦ inl (was, all)
        | inr none ↦ elim (wakes s event task none) [
          | inl still ↦ absurd (true≢false (sym now.0 ∙ still))
          | inr wake ↦ inr (zero, ap Some wake, past)
        ]
      ]
        where
          all : NeverTakenFrom 0 (event ∷ events) (answer s event ∷ later) task
          all zero from out = true≢false (sym now.0
              ∙ rests s event task (taken_first event events (answer s event) later task out))
          all (suc j) from out = now.1 j (omega arith) out

          past : NeverTakenFrom (zero + 1) (event ∷ events) (answer s event ∷ later) task
          past j from out = all j (omega arith) out
