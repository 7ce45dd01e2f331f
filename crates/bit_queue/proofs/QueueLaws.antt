-- What follows from the queue machine for every list of events.
use Rattle.std.proofs.Common.{◌≡◌, ℕ, zero, suc, ◌+◌, ◌<◌, ◌≤◌, ◌⊎◌, Bool, true, false, not, cond}
use Rattle.std.proofs.Common.{◌&&◌, ◌||◌, ◌==◌, nat_lt, Option, Some, None, List, [], ◌∷◌, inl, inr}
use Rattle.std.proofs.Common.{refl, sym, ap, ◌∙◌, subst, arith}
use Rattle.std.specs.List.{count_by, fold, scan}
use Rattle.std.specs.Prelude.{◌↔◌, MatchOption, slice_get}
use Rattle.std.proofs.lemmas.Bool.{cases_eq, cases_Bool, cases_lt, lt-ltb, ltb-true, le-ltb, eq-eqb}
use Rattle.std.proofs.lemmas.Bool.{ne_eqb, or_right, and_parts, and_right, true≢false}
use Rattle.bittle.specs.PlainSet.{PlainSet, members_below}
use Rattle.bittle.specs.Searches.{NoneIn}
use Rattle.bit_queue.specs.Queue.{is_ready, most_urgent, with_task, without_task, with_woken}
use Rattle.bit_queue.specs.Queue.{removed_or_not, with_removed, runs_or_idle, without_picked}
use Rattle.bit_queue.specs.Queue.{answer_to, state_after, event_answers, final_state}
use Rattle.bit_queue.specs.QueueLaws.{IsMostUrgent, IsWokenFirst, IsWokenBetween}
use Rattle.bit_queue.specs.QueueLaws.{IsWokenAfterRemovals, IsLeftReady, is_next, wakes_more_urgent}
use Rattle.bit_queue.specs.QueueLaws.{IsTakenIn}
use Rattle.bit_queue.specs.declared.Answer.TheVariants.{Woken, NoTask, Removed, NotReady, Runs}
use Rattle.bit_queue.specs.declared.Answer.TheVariants.{Idle}
use Rattle.bit_queue.specs.declared.Event.{Event}
use Rattle.bit_queue.specs.declared.Event.TheVariants.{Wake, Remove, Next}
use Rattle.bit_histories.proofs.Histories.{each_answer}
use Rattle.bittle.proofs.Replies.{run_keeps}
use Rattle.bit_queue.proofs.Counting.{counts_fewer, counts_less, counts_with, counts_item}
use Rattle.bit_queue.proofs.Urgency.{most_urgent-is, most_urgent-of, ready-member}
use Rattle.bit_queue.proofs.Histories as histories

pub woken_is_no_run : (b : Bool) (task : ℕ) → cond b Woken NoTask ≡ Runs task → ⊥
woken_is_no_run true task e = cc
woken_is_no_run false task e = cc

pub woken_is_not_idle : (b : Bool) → cond b Woken NoTask ≡ Idle → ⊥
woken_is_not_idle true e = cc
woken_is_not_idle false e = cc

pub woken_is_not_removed : (b : Bool) → cond b Woken NoTask ≡ Removed → ⊥
woken_is_not_removed true e = cc
woken_is_not_removed false e = cc

pub woken_is_not_refused : (b : Bool) → cond b Woken NoTask ≡ NotReady → ⊥
woken_is_not_refused true e = cc
woken_is_not_refused false e = cc

pub removed_is_no_run : (b : Bool) (task : ℕ) → cond b Removed NotReady ≡ Runs task → ⊥
removed_is_no_run true task e = cc
removed_is_no_run false task e = cc

pub removed_is_not_idle : (b : Bool) → cond b Removed NotReady ≡ Idle → ⊥
removed_is_not_idle true e = cc
removed_is_not_idle false e = cc

pub removed_is_no_no_task : (b : Bool) → cond b Removed NotReady ≡ NoTask → ⊥
removed_is_no_no_task true e = cc
removed_is_no_no_task false e = cc

-- NoTask is answered to a wake exactly if the number is at or past the number of tasks
pub woken_is_no_task : (tasks other : ℕ) → (cond (nat_lt other tasks) Woken NoTask ≡ NoTask)
    ↔ ((task : ℕ) × (Wake other ≡ Wake task) × (tasks ≤ task))
woken_is_no_task tasks other = elim (cases_lt other tasks) [
  | inl l ↦ (
    λ e. absurd (let is : Woken ≡ NoTask =
        sym (ap (λ b. cond b Woken NoTask) (lt-ltb other tasks l)) ∙ e in cc),
    λ w. let same : other ≡ w.0 = cc in absurd (omega (arith, l, same, w.2)),
  )
  | inr g ↦ (
    λ e. (other, refl, g),
    λ w. ap (λ b. cond b Woken NoTask) (le-ltb other tasks g),
  )
]

-- Removed is answered to a removal exactly if the task is ready
pub removed_if_ready : (s : PlainSet) (other : ℕ) → (removed_or_not s other ≡ Removed)
    ↔ ((task : ℕ) × (Remove other ≡ Remove task) × (is_ready s task ≡ true))
removed_if_ready s other = elim (cases_Bool (is_ready s other)) [
  | inl is ↦ (λ e. (other, refl, is), λ w. ap (λ b. cond b Removed NotReady) is)
  | inr none ↦ (
    λ e. absurd (let same : NotReady ≡ Removed =
        sym (ap (λ b. cond b Removed NotReady) none) ∙ e in cc),
    λ w. let same : other ≡ w.0 = cc in
        absurd (true≢false (sym w.2 ∙ ap (is_ready s) (sym same) ∙ none)),
  )
]

-- NotReady is answered to a removal exactly if the task is not ready
pub refused_if_not_ready : (s : PlainSet) (other : ℕ) → (removed_or_not s other ≡ NotReady)
    ↔ ((task : ℕ) × (Remove other ≡ Remove task) × (is_ready s task ≡ false))
refused_if_not_ready s other = elim (cases_Bool (is_ready s other)) [
  | inl is ↦ (
    λ e. absurd (let same : Removed ≡ NotReady =
        sym (ap (λ b. cond b Removed NotReady) is) ∙ e in cc),
    λ w. let same : other ≡ w.0 = cc in
        absurd (true≢false (sym is ∙ ap (is_ready s) same ∙ w.2)),
  )
  | inr none ↦ (λ e. (other, refl, none), λ w. ap (λ b. cond b Removed NotReady) none)
]

pub run_is_not_removed : (picked : Option ℕ) → runs_or_idle picked ≡ Removed → ⊥
run_is_not_removed None e = cc
run_is_not_removed (Some task) e = cc

pub run_is_not_refused : (picked : Option ℕ) → runs_or_idle picked ≡ NotReady → ⊥
run_is_not_refused None e = cc
run_is_not_refused (Some task) e = cc

pub run_is_no_no_task : (picked : Option ℕ) → runs_or_idle picked ≡ NoTask → ⊥
run_is_no_no_task None e = cc
run_is_no_no_task (Some task) e = cc

-- the task that runs is the one that was picked
pub run_is_picked : (picked : Option ℕ) (task : ℕ) → runs_or_idle picked ≡ Runs task →
    picked ≡ Some task
run_is_picked None task e = absurd (cc)
run_is_picked (Some p) task e = let same : p ≡ task = cc in ap Some same

-- a task that runs is the most urgent one
pub runs_most_urgent : (s : PlainSet) (event : Event) (task : ℕ) → answer_to s event ≡ Runs task →
    IsMostUrgent s task
runs_most_urgent s (Wake other) task = λ e.
    absurd (woken_is_no_run (nat_lt other s.capacity) task e)
runs_most_urgent s (Remove other) task = λ e.
    absurd (removed_is_no_run (is_ready s other) task e)
runs_most_urgent s Next task = λ e.
    by (most_urgent s) (most_urgent-is s) (run_is_picked (most_urgent s) task e)
  where
    by : (o : Option ℕ) → MatchOption o (NoneIn s 0 s.capacity) (IsMostUrgent s) →
        o ≡ Some task → IsMostUrgent s task
    by None none e = absurd (cc)
    by (Some p) urgent e = let same : p ≡ task = cc in rw same at urgent

-- a task runs exactly if the event is a step and the task is the most urgent one
pub runs_is_most_urgent : (s : PlainSet) (event : Event) (task : ℕ) →
    (answer_to s event ≡ Runs task) ↔ ((event ≡ Next) × IsMostUrgent s task)
runs_is_most_urgent s (Wake other) task = (
  λ e. absurd (woken_is_no_run (nat_lt other s.capacity) task e),
  λ is. absurd (let same = is.0 in cc),
)
runs_is_most_urgent s (Remove other) task = (
  λ e. absurd (removed_is_no_run (is_ready s other) task e),
  λ is. absurd (let same = is.0 in cc),
)
runs_is_most_urgent s Next task = (
  λ e. (refl, runs_most_urgent s Next task e),
  λ is. ap runs_or_idle (most_urgent-of s task is.1),
)

-- a step is idle exactly if no task is ready
pub idle_is_none : (s : PlainSet) (event : Event) → (answer_to s event ≡ Idle)
    ↔ ((event ≡ Next) × NoneIn s 0 s.capacity)
idle_is_none s (Wake other) = (
  λ e. absurd (woken_is_not_idle (nat_lt other s.capacity) e),
  λ e. absurd (cc),
)
idle_is_none s (Remove other) = (
  λ e. absurd (removed_is_not_idle (is_ready s other) e),
  λ e. absurd (cc),
)
idle_is_none s Next = by (most_urgent s) (most_urgent-is s)
  where
    by : (o : Option ℕ) → MatchOption o (NoneIn s 0 s.capacity) (IsMostUrgent s) →
        (runs_or_idle o ≡ Idle) ↔ ((Next ≡ Next) × NoneIn s 0 s.capacity)
    by None none = (λ e. (refl, none), λ e. refl)
    by (Some p) urgent = (
      λ e. absurd (cc),
      λ e. absurd (true≢false (sym urgent.is_ready ∙ e.1 p (omega arith) urgent.within)),
    )

-- NoTask is answered exactly if an event wakes a number at or past the number of tasks
pub no_task_is_past : (s : PlainSet) (event : Event) → (answer_to s event ≡ NoTask)
    ↔ ((task : ℕ) × (event ≡ Wake task) × (s.capacity ≤ task))
no_task_is_past s (Wake other) = woken_is_no_task s.capacity other
no_task_is_past s (Remove other) = (
  λ e. absurd (removed_is_no_no_task (is_ready s other) e),
  λ w. absurd (let same = w.1 in cc),
)
no_task_is_past s Next = (
  λ e. absurd (run_is_no_no_task (most_urgent s) e),
  λ w. absurd (let same = w.1 in cc),
)

-- Removed is answered exactly if an event removes a task that is ready
pub removed_is_ready : (s : PlainSet) (event : Event) → (answer_to s event ≡ Removed)
    ↔ ((task : ℕ) × (event ≡ Remove task) × (is_ready s task ≡ true))
removed_is_ready s (Wake other) = (
  λ e. absurd (woken_is_not_removed (nat_lt other s.capacity) e),
  λ w. absurd (let same = w.1 in cc),
)
removed_is_ready s (Remove other) = removed_if_ready s other
removed_is_ready s Next = (
  λ e. absurd (run_is_not_removed (most_urgent s) e),
  λ w. absurd (let same = w.1 in cc),
)

-- NotReady is answered exactly if an event removes a number that is no ready task
pub refused_is_not_ready : (s : PlainSet) (event : Event) → (answer_to s event ≡ NotReady)
    ↔ ((task : ℕ) × (event ≡ Remove task) × (is_ready s task ≡ false))
refused_is_not_ready s (Wake other) = (
  λ e. absurd (woken_is_not_refused (nat_lt other s.capacity) e),
  λ w. absurd (let same = w.1 in cc),
)
refused_is_not_ready s (Remove other) = refused_if_not_ready s other
refused_is_not_ready s Next = (
  λ e. absurd (run_is_not_refused (most_urgent s) e),
  λ w. absurd (let same = w.1 in cc),
)

-- NoTask, NotReady and Idle change nothing
pub changes_nothing : (s : PlainSet) (event : Event) →
    (answer_to s event ≡ NoTask) ⊎ ((answer_to s event ≡ NotReady) ⊎ (answer_to s event ≡ Idle)) →
    state_after s event ≡ s
changes_nothing s (Wake task) = by (nat_lt task s.capacity)
  where
    by : (b : Bool) → (cond b Woken NoTask ≡ NoTask)
        ⊎ ((cond b Woken NoTask ≡ NotReady) ⊎ (cond b Woken NoTask ≡ Idle)) →
        cond b (with_task s task) s ≡ s
    by true (inl e) = absurd (cc)
    by true (inr (inl e)) = absurd (cc)
    by true (inr (inr e)) = absurd (cc)
    by false e = refl
changes_nothing s (Remove task) = by (is_ready s task)
  where
    by : (b : Bool) → (cond b Removed NotReady ≡ NoTask)
        ⊎ ((cond b Removed NotReady ≡ NotReady) ⊎ (cond b Removed NotReady ≡ Idle)) →
        cond b (without_task s task) s ≡ s
    by true (inl e) = absurd (cc)
    by true (inr (inl e)) = absurd (cc)
    by true (inr (inr e)) = absurd (cc)
    by false e = refl
changes_nothing s Next = by (most_urgent s)
  where
    by : (o : Option ℕ) → (runs_or_idle o ≡ NoTask)
        ⊎ ((runs_or_idle o ≡ NotReady) ⊎ (runs_or_idle o ≡ Idle)) →
        without_picked s o ≡ s
    by None e = refl
    by (Some p) (inl e) = absurd (cc)
    by (Some p) (inr (inl e)) = absurd (cc)
    by (Some p) (inr (inr e)) = absurd (cc)

-- a task that was taken out is not ready
pub taken_out : (s : PlainSet) (task : ℕ) → (without_task s task).has task ≡ false
taken_out s task = ap (λ b. not b && s.has task) (eq-eqb task task refl)

-- the other tasks stay as they are
pub others_stay : (s : PlainSet) (task k : ℕ) → (k ≡ task → ⊥) →
    (without_task s task).has k ≡ s.has k
others_stay s task k n = ap (λ b. not b && s.has k) (ne_eqb k task n)

-- a task that was taken out is no ready task
pub out_rests : (s : PlainSet) (task : ℕ) → is_ready (without_task s task) task ≡ false
out_rests s task = and_right (nat_lt task s.capacity) ((without_task s task).has task)
    (taken_out s task)

-- a task that is not ready is still not ready after any was taken out
pub still_rests : (s : PlainSet) (out task : ℕ) → is_ready s task ≡ false →
    is_ready (without_task s out) task ≡ false
still_rests s out task e = elim (cases_eq task out) [
  | inl same ↦ ap (λ k. is_ready (without_task s k) task) (sym same) ∙ out_rests s task
  | inr apart ↦ ap (λ b. nat_lt task s.capacity && b) (others_stay s out task apart) ∙ e
]

-- a ready task stays ready if another is taken out
pub out_others : (s : PlainSet) (out task : ℕ) → (task ≡ out → ⊥) → is_ready s task ≡ true →
    is_ready (without_task s out) task ≡ true
out_others s out task apart e =
    ap (λ b. nat_lt task s.capacity && b) (others_stay s out task apart) ∙ e

-- a task that is not ready is still not ready after another was woken
pub wakes_alone : (s : PlainSet) (other task : ℕ) → is_ready s task ≡ false →
    (is_ready (with_woken s other) task ≡ false) ⊎ (Wake other ≡ Wake task)
wakes_alone s other task e = by (cases_eq task other) (nat_lt other s.capacity)
  where
    by : (task ≡ other) ⊎ (task ≡ other → ⊥) → (b : Bool) →
        (is_ready (cond b (with_task s other) s) task ≡ false) ⊎ (Wake other ≡ Wake task)
    by (inl same) b = inr (ap Wake (sym same))
    by (inr apart) true = inl (ap (λ b. nat_lt task s.capacity && (b || s.has task))
        (ne_eqb task other apart) ∙ e)
    by (inr apart) false = inl e

-- no task becomes ready by a removal
pub removes_alone : (s : PlainSet) (other task : ℕ) → is_ready s task ≡ false →
    is_ready (with_removed s other) task ≡ false
removes_alone s other task e = by (is_ready s other)
  where
    by : (b : Bool) → is_ready (cond b (without_task s other) s) task ≡ false
    by true = still_rests s other task e
    by false = e

-- a task that an event removes is not ready afterwards
pub removed_not_ready : (s : PlainSet) (task : ℕ) → is_ready (with_removed s task) task ≡ false
removed_not_ready s task = elim (cases_Bool (is_ready s task)) [
  | inl is ↦
      ap (λ b. is_ready (cond b (without_task s task) s) task) is ∙ out_rests s task
  | inr none ↦ ap (λ b. is_ready (cond b (without_task s task) s) task) none ∙ none
]

-- a removal keeps the number of tasks
pub removals_keep : (s : PlainSet) (other : ℕ) → (with_removed s other).capacity ≡ s.capacity
removals_keep s other = by (is_ready s other)
  where
    by : (b : Bool) → (cond b (without_task s other) s).capacity ≡ s.capacity
    by true = refl
    by false = refl

-- a removal keeps the other tasks
pub removals_spare : (s : PlainSet) (other task : ℕ) → (task ≡ other → ⊥) → s.has task ≡ true →
    (with_removed s other).has task ≡ true
removals_spare s other task apart is = by (is_ready s other)
  where
    by : (b : Bool) → (cond b (without_task s other) s).has task ≡ true
    by true = others_stay s other task apart ∙ is
    by false = is

-- a removal adds no task
pub removals_add_none : (s : PlainSet) (other task : ℕ) → (with_removed s other).has task ≡ true →
    s.has task ≡ true
removals_add_none s other task = by (is_ready s other)
  where
    by : (b : Bool) → (cond b (without_task s other) s).has task ≡ true → s.has task ≡ true
    by true e = (and_parts (not (task == other)) (s.has task) e).1
    by false e = e

-- a wake keeps the number of tasks
pub wakes_keep : (s : PlainSet) (other : ℕ) → (with_woken s other).capacity ≡ s.capacity
wakes_keep s other = by (nat_lt other s.capacity)
  where
    by : (b : Bool) → (cond b (with_task s other) s).capacity ≡ s.capacity
    by true = refl
    by false = refl

-- a ready task stays ready if any task is woken
pub still_ready : (s : PlainSet) (other task : ℕ) → s.has task ≡ true →
    (with_woken s other).has task ≡ true
still_ready s other task is = by (nat_lt other s.capacity)
  where
    by : (b : Bool) → (cond b (with_task s other) s).has task ≡ true
    by true = or_right (task == other) (s.has task) is
    by false = is

-- a task that is woken is ready
pub woken_ready : (s : PlainSet) (task : ℕ) → task < s.capacity →
    is_ready (with_woken s task) task ≡ true
woken_ready s task h = ready-member (with_woken s task) task (omega (arith, h, wakes_keep s task))
    (ap (λ b. (cond b (with_task s task) s).has task) (lt-ltb task s.capacity h)
    ∙ ap (λ b. b || s.has task) (eq-eqb task task refl))

-- the parts of a ready task
pub ready_parts : (s : PlainSet) (task : ℕ) → is_ready s task ≡ true →
    (task < s.capacity) × (s.has task ≡ true)
ready_parts s task e =
    let parts = and_parts (nat_lt task s.capacity) (s.has task) e in
    (ltb-true task s.capacity parts.0, parts.1)

-- below the number of tasks, the ready tasks are the members
pub is_member : (s : PlainSet) (task : ℕ) → task < s.capacity → is_ready s task ≡ s.has task
is_member s task h = ap (λ b. b && s.has task) (lt-ltb task s.capacity h)

-- a ready task stays ready if any task is woken
pub wakes_spare : (s : PlainSet) (other task : ℕ) → is_ready s task ≡ true →
    is_ready (with_woken s other) task ≡ true
wakes_spare s other task e =
    let parts = ready_parts s task e in
    ready-member (with_woken s other) task (omega (arith, parts.0, wakes_keep s other))
    (still_ready s other task parts.1)

-- a ready task stays ready if another is removed
pub removals_leave : (s : PlainSet) (other task : ℕ) → (task ≡ other → ⊥) →
    is_ready s task ≡ true → is_ready (with_removed s other) task ≡ true
removals_leave s other task apart e =
    let parts = ready_parts s task e in
    ready-member (with_removed s other) task (omega (arith, parts.0, removals_keep s other))
    (removals_spare s other task apart parts.1)

-- the facts about the machine that the lemmas of Histories.antt require
runs_ready : (s : PlainSet) (event : Event) (task : ℕ) → answer_to s event ≡ Runs task →
    is_ready s task ≡ true
runs_ready s event task e =
    let urgent = runs_most_urgent s event task e in
    ready-member s task urgent.within urgent.is_ready

rests : (s : PlainSet) (event : Event) (task : ℕ) →
    (answer_to s event ≡ Runs task) ⊎ (event ≡ Remove task) →
    is_ready (state_after s event) task ≡ false
rests s event task (inr e) =
    ap (λ x. is_ready (state_after s x) task) e ∙ removed_not_ready s task
rests s (Wake other) task (inl e) = absurd (woken_is_no_run (nat_lt other s.capacity) task e)
rests s (Remove other) task (inl e) = absurd (removed_is_no_run (is_ready s other) task e)
rests s Next task (inl e) =
    ap (λ o. is_ready (without_picked s o) task) (run_is_picked (most_urgent s) task e)
    ∙ out_rests s task

wakes : (s : PlainSet) (event : Event) (task : ℕ) → is_ready s task ≡ false →
    (is_ready (state_after s event) task ≡ false) ⊎ (event ≡ Wake task)
wakes s (Wake other) task e = wakes_alone s other task e
wakes s (Remove other) task e = inl (removes_alone s other task e)
wakes s Next task e = inl (by (most_urgent s))
  where
    by : (o : Option ℕ) → is_ready (without_picked s o) task ≡ false
    by None = e
    by (Some p) = still_rests s p task e

keeps : (s : PlainSet) (event : Event) → (state_after s event).capacity ≡ s.capacity
keeps s (Wake other) = wakes_keep s other
keeps s (Remove other) = removals_keep s other
keeps s Next = by (most_urgent s)
  where
    by : (o : Option ℕ) → (without_picked s o).capacity ≡ s.capacity
    by None = refl
    by (Some p) = refl

-- each task that runs in a list of events is below the number of tasks
pub tasks_are_below : (s : PlainSet) (events : List Event) (i task : ℕ) →
    slice_get (event_answers s events) i ≡ Some (Runs task) → task < s.capacity
unfolding event_answers
tasks_are_below s events i task e = each_answer answer_to state_after (λ t. t.capacity)
    (λ c given. (p : ℕ) → given ≡ Runs p → p < c) keeps
    (λ t event p is. (runs_most_urgent t event p is).within) s events i (Runs task) e task refl

stays : (s : PlainSet) (event : Event) (task : ℕ) → is_ready s task ≡ true →
    (answer_to s event ≡ Runs task → ⊥) → (event ≡ Remove task → ⊥) →
    is_ready (state_after s event) task ≡ true
stays s (Wake other) task is never spared = wakes_spare s other task is
stays s (Remove other) task is never spared =
    removals_leave s other task (λ same. spared (ap Remove (sym same))) is
stays s Next task is never spared = by (most_urgent s) never
  where
    by : (o : Option ℕ) → (runs_or_idle o ≡ Runs task → ⊥) →
        is_ready (without_picked s o) task ≡ true
    by None never = is
    by (Some p) never = out_others s p task (λ same. never (ap Runs (sym same))) is

pub woken_first : (s : PlainSet) (events : List Event) (task : ℕ) → s.has task ≡ false →
    IsWokenFirst events (event_answers s events) task
unfolding event_answers
woken_first s events task e = histories.woken_first answer_to state_after is_ready runs_ready rests
    wakes s events task (and_right (nat_lt task s.capacity) (s.has task) e)

pub woken_between : (s : PlainSet) (events : List Event) (task : ℕ) →
    IsWokenBetween events (event_answers s events) task
unfolding event_answers
woken_between s events task i j h a b = histories.woken_since answer_to state_after is_ready
    runs_ready rests wakes s events task i j h (inl a) b

pub woken_after_removals : (s : PlainSet) (events : List Event) (task : ℕ) →
    IsWokenAfterRemovals events (event_answers s events) task
unfolding event_answers
woken_after_removals s events task i j h a b = histories.woken_since answer_to state_after is_ready
    runs_ready rests wakes s events task i j h (inr a) b

-- a task is ready after a list of events exactly if the events and their answers leave it ready
pub ready_is_left : (s : PlainSet) (events : List Event) (task : ℕ) →
    (is_ready (final_state s events) task ≡ true)
    ↔ ((task < s.capacity) × IsLeftReady (s.has task) events (event_answers s events) task)
unfolding event_answers final_state
ready_is_left s events task = (
  λ e.
      let inside : task < s.capacity = omega (arith, (ready_parts last task e).0, same) in (
        inside,
        subst (λ b. IsLeftReady b events (scan state_after answer_to s events) task)
            (is_member s task inside)
            (histories.was_left answer_to state_after (λ s. s.capacity) is_ready rests wakes keeps
            stays woken_ready s events task e),
      ),
  λ w. histories.is_left answer_to state_after (λ s. s.capacity) is_ready rests wakes keeps stays
      woken_ready s events task w.0
      (subst (λ b. IsLeftReady b events (scan state_after answer_to s events) task)
      (sym (is_member s task w.0)) w.1),
)
  where
    last : PlainSet
    last = fold state_after s events

    same : last.capacity ≡ s.capacity
    same = run_keeps state_after (λ s. s.capacity) keeps s events

-- a ready task runs, or is removed, within the number of steps that `TasksRunInTime` states
pub in_time : (s : PlainSet) (events : List Event) (task : ℕ) → task < s.capacity →
    s.has task ≡ true →
    members_below s task + count_by (wakes_more_urgent task) events + 1
    ≤ count_by is_next events → IsTakenIn events (event_answers s events) task
unfolding event_answers
in_time s [] task h r e = absurd (omega (arith, e))
in_time s (Wake other ∷ events) task h r e =
    by (λ t. in_time t events task) (nat_lt other s.capacity)
  where
    more : count_by (wakes_more_urgent task) (Wake other ∷ events)
        ≡ cond (nat_lt other task) 1 0 + count_by (wakes_more_urgent task) events
    more = counts_item (wakes_more_urgent task) (Wake other) events

    steps : count_by is_next (Wake other ∷ events) ≡ 0 + count_by is_next events
    steps = counts_item is_next (Wake other) events

    by : ((t : PlainSet) → task < t.capacity → t.has task ≡ true →
        members_below t task + count_by (wakes_more_urgent task) events + 1
        ≤ count_by is_next events →
        IsTakenIn events (scan state_after answer_to t events) task) →
        (b : Bool) → IsTakenIn (Wake other ∷ events) (cond b Woken NoTask
        ∷ scan state_after answer_to (cond b (with_task s other) s) events) task
    by later true =
        let run = later (with_task s other) h (or_right (task == other) (s.has task) r)
        (omega (arith, e, more, steps, counts_with task other s.has)) in (suc run.0, run.1)
    by later false = let run = later s h r (omega (arith, e, more, steps)) in (suc run.0, run.1)
in_time s (Remove other ∷ events) task h r e = elim (cases_eq task other) [
  | inl same ↦ (zero, inr (ap (λ k. Some (Remove k)) (sym same)))
  | inr apart ↦
      let more : count_by (wakes_more_urgent task) (Remove other ∷ events)
      ≡ 0 + count_by (wakes_more_urgent task) events =
      counts_item (wakes_more_urgent task) (Remove other) events in
      let steps : count_by is_next (Remove other ∷ events) ≡ 0 + count_by is_next events =
      counts_item is_next (Remove other) events in
      let fewer = counts_fewer task (with_removed s other).has s.has
      (λ k l. removals_add_none s other k) in
      let run = in_time (with_removed s other) events task
      (omega (arith, h, removals_keep s other)) (removals_spare s other task apart r)
      (omega (arith, e, more, steps, fewer)) in (suc run.0, run.1)
]
in_time s (Next ∷ events) task h r e =
    by (λ t. in_time t events task) (most_urgent s) (most_urgent-is s)
  where
    more : count_by (wakes_more_urgent task) (Next ∷ events)
        ≡ 0 + count_by (wakes_more_urgent task) events
    more = counts_item (wakes_more_urgent task) Next events

    steps : count_by is_next (Next ∷ events) ≡ 1 + count_by is_next events
    steps = counts_item is_next Next events

    by : ((t : PlainSet) → task < t.capacity → t.has task ≡ true →
        members_below t task + count_by (wakes_more_urgent task) events + 1
        ≤ count_by is_next events →
        IsTakenIn events (scan state_after answer_to t events) task) →
        (o : Option ℕ) → MatchOption o (NoneIn s 0 s.capacity) (IsMostUrgent s) →
        IsTakenIn (Next ∷ events) (runs_or_idle o
        ∷ scan state_after answer_to (without_picked s o) events) task
    by later None none = absurd (true≢false (sym r ∙ none task (omega arith) h))
    by later (Some p) urgent =
        elim (cases_lt p task) [
          | inl l ↦
              let apart : task ≡ p → ⊥ = λ same. omega (arith, same) in
              let fewer = counts_less task p (without_task s p).has s.has l (taken_out s p)
              urgent.is_ready (kept p) in
              let run = later (without_task s p) h (others_stay s p task apart ∙ r)
              (omega (arith, e, more, steps, fewer)) in (suc run.0, run.1)
          | inr g ↦ elim (cases_lt task p) [
            | inl l ↦ absurd (true≢false (sym r ∙ urgent.none_above task l))
            | inr m ↦
                let same : p ≡ task = omega arith in (zero, inl (ap (λ k. Some (Runs k)) same))
          ]
        ]
      where
        kept : (p k : ℕ) → k < task → (without_task s p).has k ≡ true → s.has k ≡ true
        kept p k m some = elim (cases_Bool (s.has k)) [
          | inl here ↦ here
          | inr none ↦
              absurd (true≢false (sym some ∙ and_right (not (k == p)) (s.has k) none))
        ]
