-- What follows from the round-robin machine for every list of events.
use Rattle.std.proofs.Common.{◌≡◌, ℕ, zero, suc, ◌+◌, ◌<◌, ◌≤◌, ◌⊎◌, Bool, true, false, not, cond}
use Rattle.std.proofs.Common.{◌&&◌, ◌||◌, ◌==◌, nat_lt, Option, Some, None, List, [], ◌∷◌, inl, inr}
use Rattle.std.proofs.Common.{refl, sym, ap, ◌∙◌, subst, arith}
use Rattle.std.specs.List.{count_by, fold, scan, list_any}
use Rattle.std.specs.Prelude.{◌↔◌, MatchOption, slice_get}
use Rattle.std.proofs.lemmas.Bool.{cases_eq, cases_Bool, cases_lt, or_right, and_parts, and_right}
use Rattle.std.proofs.lemmas.Bool.{true≢false}
use Rattle.bittle.specs.PlainSet.{PlainSet, count_below, size}
use Rattle.bittle.specs.Searches.{NoneIn}
use Rattle.bittle.proofs.CallerSets.{size_at_most}
use Rattle.bit_queue.specs.Queue.{is_ready, with_task, without_task, runs_or_idle}
use Rattle.bit_queue.specs.QueueLaws.{IsWokenFirst, IsWokenBetween, IsWokenAfterRemovals}
use Rattle.bit_queue.specs.QueueLaws.{IsLeftReady, is_next, IsTakenAt, IsTakenIn}
use Rattle.bit_queue.specs.RoundRobin.{Round, round_at, next_in_turn, past_picked, answer_in_turn}
use Rattle.bit_queue.specs.RoundRobin.{round_after, answers_in_turn, final_round}
use Rattle.bit_queue.specs.RoundRobinLaws.{comes_before, IsNextInTurn, turn_after, wakes}
use Rattle.bit_queue.specs.RoundRobinLaws.{ever_ready}
use Rattle.bit_queue.specs.declared.Answer.TheVariants.{Woken, NoTask, Removed, NotReady, Runs}
use Rattle.bit_queue.specs.declared.Answer.TheVariants.{Idle}
use Rattle.bit_queue.specs.declared.Event.{Event}
use Rattle.bit_queue.specs.declared.Event.TheVariants.{Wake, Remove, Next}
use Rattle.bit_histories.proofs.Histories.{each_answer}
use Rattle.bittle.proofs.Replies.{run_keeps}
use Rattle.bit_queue.proofs.Counting.{counts_less, counts_item}
use Rattle.bit_queue.proofs.QueueLaws.{changes_nothing, woken_is_no_run, woken_is_not_idle}
use Rattle.bit_queue.proofs.QueueLaws.{woken_is_no_task, woken_is_not_removed, woken_is_not_refused}
use Rattle.bit_queue.proofs.QueueLaws.{removed_is_no_run, removed_is_not_idle}
use Rattle.bit_queue.proofs.QueueLaws.{removed_is_no_no_task, removed_if_ready}
use Rattle.bit_queue.proofs.QueueLaws.{refused_if_not_ready, run_is_no_no_task, run_is_not_removed}
use Rattle.bit_queue.proofs.QueueLaws.{run_is_not_refused, run_is_picked, others_stay, out_rests}
use Rattle.bit_queue.proofs.QueueLaws.{out_others, still_rests, wakes_alone, wakes_keep}
use Rattle.bit_queue.proofs.QueueLaws.{wakes_spare, still_ready, woken_ready, removes_alone}
use Rattle.bit_queue.proofs.QueueLaws.{removed_not_ready, removals_keep, removals_spare}
use Rattle.bit_queue.proofs.QueueLaws.{removals_leave, removals_add_none, ready_parts, is_member}
use Rattle.bit_queue.proofs.Turns.{Comes, comes_is, comes_from, comes_not, comes_either}
use Rattle.bit_queue.proofs.Turns.{next_in_turn-is}
use Rattle.bit_queue.proofs.Urgency.{ready-member}
use Rattle.bit_queue.proofs.Histories as histories

-- a task that runs is the next in turn
pub runs_in_turn : (r : Round) (event : Event) (task : ℕ) → answer_in_turn r event ≡ Runs task →
    IsNextInTurn r task
runs_in_turn r (Wake other) task = λ e.
    absurd (woken_is_no_run (nat_lt other r.ready.capacity) task e)
runs_in_turn r (Remove other) task = λ e.
    absurd (removed_is_no_run (is_ready r.ready other) task e)
runs_in_turn r Next task = λ e.
    by (next_in_turn r) (next_in_turn-is r) (run_is_picked (next_in_turn r) task e)
  where
    by : (o : Option ℕ) →
        MatchOption o (NoneIn r.ready 0 r.ready.capacity) (IsNextInTurn r) →
        o ≡ Some task → IsNextInTurn r task
    by None none e = absurd (cc)
    by (Some p) next e = let same : p ≡ task = cc in rw same at next

-- the task that was picked comes before any other ready one
picked_comes : (r : Round) (picked task : ℕ) → IsNextInTurn r picked → task < r.ready.capacity →
    r.ready.has task ≡ true → (picked ≡ task → ⊥) → Comes r.turn picked task
picked_comes r picked task next h ready apart = comes_either r.turn picked task apart
    (λ c. true≢false (sym ready ∙ next.none_before task h (comes_is r.turn task picked c)))

-- `next_in_turn` finds the task that is the next in turn
next_in_turn-of : (r : Round) (task : ℕ) → IsNextInTurn r task → next_in_turn r ≡ Some task
next_in_turn-of r task is = by (next_in_turn r) (next_in_turn-is r)
  where
    by : (o : Option ℕ) → MatchOption o (NoneIn r.ready 0 r.ready.capacity) (IsNextInTurn r) →
        o ≡ Some task
    by None none = absurd (true≢false (sym is.is_ready ∙ none task (omega arith) is.within))
    by (Some p) next = elim (cases_eq p task) [
      | inl same ↦ ap Some same
      | inr apart ↦
          let comes = picked_comes r p task next is.within is.is_ready apart in
          absurd (true≢false (sym next.is_ready
          ∙ is.none_before p next.within (comes_is r.turn p task comes)))
    ]

-- a task runs exactly if the event is a step and the task is the next in turn
pub runs_is_next_in_turn : (r : Round) (event : Event) (task : ℕ) →
    (answer_in_turn r event ≡ Runs task) ↔ ((event ≡ Next) × IsNextInTurn r task)
runs_is_next_in_turn r (Wake other) task = (
  λ e. absurd (woken_is_no_run (nat_lt other r.ready.capacity) task e),
  λ is. absurd (let same = is.0 in cc),
)
runs_is_next_in_turn r (Remove other) task = (
  λ e. absurd (removed_is_no_run (is_ready r.ready other) task e),
  λ is. absurd (let same = is.0 in cc),
)
runs_is_next_in_turn r Next task = (
  λ e. (refl, runs_in_turn r Next task e),
  λ is. ap runs_or_idle (next_in_turn-of r task is.1),
)

-- a step is idle exactly if no task is ready
pub idle_is_none : (r : Round) (event : Event) → (answer_in_turn r event ≡ Idle)
    ↔ ((event ≡ Next) × NoneIn r.ready 0 r.ready.capacity)
idle_is_none r (Wake other) = (
  λ e. absurd (woken_is_not_idle (nat_lt other r.ready.capacity) e),
  λ e. absurd (cc),
)
idle_is_none r (Remove other) = (
  λ e. absurd (removed_is_not_idle (is_ready r.ready other) e),
  λ e. absurd (cc),
)
idle_is_none r Next = by (next_in_turn r) (next_in_turn-is r)
  where
    by : (o : Option ℕ) →
        MatchOption o (NoneIn r.ready 0 r.ready.capacity) (IsNextInTurn r) →
        (runs_or_idle o ≡ Idle) ↔ ((Next ≡ Next) × NoneIn r.ready 0 r.ready.capacity)
    by None none = (λ e. (refl, none), λ e. refl)
    by (Some p) next = (
      λ e. absurd (cc),
      λ e. absurd (true≢false (sym next.is_ready ∙ e.1 p (omega arith) next.within)),
    )

-- NoTask is answered exactly if an event wakes a number at or past the number of tasks
pub no_task_is_past : (r : Round) (event : Event) → (answer_in_turn r event ≡ NoTask)
    ↔ ((task : ℕ) × (event ≡ Wake task) × (r.ready.capacity ≤ task))
no_task_is_past r (Wake other) = woken_is_no_task r.ready.capacity other
no_task_is_past r (Remove other) = (
  λ e. absurd (removed_is_no_no_task (is_ready r.ready other) e),
  λ w. absurd (let same = w.1 in cc),
)
no_task_is_past r Next = (
  λ e. absurd (run_is_no_no_task (next_in_turn r) e),
  λ w. absurd (let same = w.1 in cc),
)

-- Removed is answered exactly if an event removes a task that is ready
pub removed_is_ready : (r : Round) (event : Event) → (answer_in_turn r event ≡ Removed)
    ↔ ((task : ℕ) × (event ≡ Remove task) × (is_ready r.ready task ≡ true))
removed_is_ready r (Wake other) = (
  λ e. absurd (woken_is_not_removed (nat_lt other r.ready.capacity) e),
  λ w. absurd (let same = w.1 in cc),
)
removed_is_ready r (Remove other) = removed_if_ready r.ready other
removed_is_ready r Next = (
  λ e. absurd (run_is_not_removed (next_in_turn r) e),
  λ w. absurd (let same = w.1 in cc),
)

-- NotReady is answered exactly if an event removes a number that is no ready task
pub refused_is_not_ready : (r : Round) (event : Event) → (answer_in_turn r event ≡ NotReady)
    ↔ ((task : ℕ) × (event ≡ Remove task) × (is_ready r.ready task ≡ false))
refused_is_not_ready r (Wake other) = (
  λ e. absurd (woken_is_not_refused (nat_lt other r.ready.capacity) e),
  λ w. absurd (let same = w.1 in cc),
)
refused_is_not_ready r (Remove other) = refused_if_not_ready r.ready other
refused_is_not_ready r Next = (
  λ e. absurd (run_is_not_refused (next_in_turn r) e),
  λ w. absurd (let same = w.1 in cc),
)

-- NoTask, NotReady and Idle change neither the ready tasks nor the turn
pub changes_no_round : (r : Round) (event : Event) →
    (answer_in_turn r event ≡ NoTask)
    ⊎ ((answer_in_turn r event ≡ NotReady) ⊎ (answer_in_turn r event ≡ Idle)) →
    round_after r event ≡ r
changes_no_round r (Wake task) e =
    ap (λ s. round_at s r.turn) (changes_nothing r.ready (Wake task) e)
changes_no_round r (Remove task) e =
    ap (λ s. round_at s r.turn) (changes_nothing r.ready (Remove task) e)
changes_no_round r Next e = by (next_in_turn r) e
  where
    by : (o : Option ℕ) → (runs_or_idle o ≡ NoTask)
        ⊎ ((runs_or_idle o ≡ NotReady) ⊎ (runs_or_idle o ≡ Idle)) → past_picked r o ≡ r
    by None e = refl
    by (Some p) (inl e) = absurd (cc)
    by (Some p) (inr (inl e)) = absurd (cc)
    by (Some p) (inr (inr e)) = absurd (cc)

-- the facts about the machine that the lemmas of Histories.antt require
runs_ready : (r : Round) (event : Event) (task : ℕ) → answer_in_turn r event ≡ Runs task →
    is_ready r.ready task ≡ true
runs_ready r event task e =
    let next = runs_in_turn r event task e in
    ready-member r.ready task next.within next.is_ready

rests : (r : Round) (event : Event) (task : ℕ) →
    (answer_in_turn r event ≡ Runs task) ⊎ (event ≡ Remove task) →
    is_ready (round_after r event).ready task ≡ false
rests r event task (inr e) =
    ap (λ x. is_ready (round_after r x).ready task) e ∙ removed_not_ready r.ready task
rests r (Wake other) task (inl e) =
    absurd (woken_is_no_run (nat_lt other r.ready.capacity) task e)
rests r (Remove other) task (inl e) =
    absurd (removed_is_no_run (is_ready r.ready other) task e)
rests r Next task (inl e) =
    ap (λ o. is_ready (past_picked r o).ready task) (run_is_picked (next_in_turn r) task e)
    ∙ out_rests r.ready task

rests_on : (r : Round) (event : Event) (task : ℕ) → is_ready r.ready task ≡ false →
    (is_ready (round_after r event).ready task ≡ false) ⊎ (event ≡ Wake task)
rests_on r (Wake other) task e = wakes_alone r.ready other task e
rests_on r (Remove other) task e = inl (removes_alone r.ready other task e)
rests_on r Next task e = inl (by (next_in_turn r))
  where
    by : (o : Option ℕ) → is_ready (past_picked r o).ready task ≡ false
    by None = e
    by (Some p) = still_rests r.ready p task e

keeps : (r : Round) (event : Event) → (round_after r event).ready.capacity ≡ r.ready.capacity
keeps r (Wake other) = wakes_keep r.ready other
keeps r (Remove other) = removals_keep r.ready other
keeps r Next = by (next_in_turn r)
  where
    by : (o : Option ℕ) → (past_picked r o).ready.capacity ≡ r.ready.capacity
    by None = refl
    by (Some p) = refl

-- each task that runs in a list of events is below the number of tasks
pub tasks_are_below : (r : Round) (events : List Event) (i task : ℕ) →
    slice_get (answers_in_turn r events) i ≡ Some (Runs task) → task < r.ready.capacity
unfolding answers_in_turn
tasks_are_below r events i task e = each_answer answer_in_turn round_after (λ t. t.ready.capacity)
    (λ c given. (p : ℕ) → given ≡ Runs p → p < c) keeps
    (λ t event p is. (runs_in_turn t event p is).within) r events i (Runs task) e task refl

stays : (r : Round) (event : Event) (task : ℕ) → is_ready r.ready task ≡ true →
    (answer_in_turn r event ≡ Runs task → ⊥) → (event ≡ Remove task → ⊥) →
    is_ready (round_after r event).ready task ≡ true
stays r (Wake other) task is never spared = wakes_spare r.ready other task is
stays r (Remove other) task is never spared =
    removals_leave r.ready other task (λ same. spared (ap Remove (sym same))) is
stays r Next task is never spared = by (next_in_turn r) never
  where
    by : (o : Option ℕ) → (runs_or_idle o ≡ Runs task → ⊥) →
        is_ready (past_picked r o).ready task ≡ true
    by None never = is
    by (Some p) never = out_others r.ready p task (λ same. never (ap Runs (sym same))) is

woken_in_turn : (r : Round) (task : ℕ) → task < r.ready.capacity →
    is_ready (round_after r (Wake task)).ready task ≡ true
woken_in_turn r task h = woken_ready r.ready task h

-- the turn after one event follows from the answer to it
turn_follows : (r : Round) (event : Event) →
    (round_after r event).turn ≡ turn_after r.turn (answer_in_turn r event)
turn_follows r (Wake task) = by (nat_lt task r.ready.capacity)
  where
    by : (b : Bool) → r.turn ≡ turn_after r.turn (cond b Woken NoTask)
    by true = refl
    by false = refl
turn_follows r (Remove task) = by (is_ready r.ready task)
  where
    by : (b : Bool) → r.turn ≡ turn_after r.turn (cond b Removed NotReady)
    by true = refl
    by false = refl
turn_follows r Next = by (next_in_turn r)
  where
    by : (o : Option ℕ) → (past_picked r o).turn ≡ turn_after r.turn (runs_or_idle o)
    by None = refl
    by (Some task) = refl

-- the turn after a list of events follows from the answers
pub turn_is_past : (r : Round) (events : List Event) →
    (final_round r events).turn ≡ fold turn_after r.turn (answers_in_turn r events)
unfolding answers_in_turn final_round
turn_is_past r [] = refl
turn_is_past r (event ∷ events) = turn_is_past (round_after r event) events
    ∙ ap (λ t. fold turn_after t (scan round_after answer_in_turn (round_after r event) events))
    (turn_follows r event)

pub woken_first : (r : Round) (events : List Event) (task : ℕ) → r.ready.has task ≡ false →
    IsWokenFirst events (answers_in_turn r events) task
unfolding answers_in_turn
woken_first r events task e = histories.woken_first answer_in_turn round_after
    (λ r. is_ready r.ready) runs_ready rests rests_on r events task
    (and_right (nat_lt task r.ready.capacity) (r.ready.has task) e)

pub woken_between : (r : Round) (events : List Event) (task : ℕ) →
    IsWokenBetween events (answers_in_turn r events) task
unfolding answers_in_turn
woken_between r events task i j h a b = histories.woken_since answer_in_turn round_after
    (λ r. is_ready r.ready) runs_ready rests rests_on r events task i j h (inl a) b

pub woken_after_removals : (r : Round) (events : List Event) (task : ℕ) →
    IsWokenAfterRemovals events (answers_in_turn r events) task
unfolding answers_in_turn
woken_after_removals r events task i j h a b = histories.woken_since answer_in_turn round_after
    (λ r. is_ready r.ready) runs_ready rests rests_on r events task i j h (inr a) b

-- a task is ready after a list of events exactly if the events and their answers leave it ready
pub ready_is_left : (r : Round) (events : List Event) (task : ℕ) →
    (is_ready (final_round r events).ready task ≡ true)
    ↔ ((task < r.ready.capacity)
    × IsLeftReady (r.ready.has task) events (answers_in_turn r events) task)
unfolding answers_in_turn final_round
ready_is_left r events task = (
  λ e.
      let inside : task < r.ready.capacity =
      omega (arith, (ready_parts last.ready task e).0, same) in (
        inside,
        subst (λ b. IsLeftReady b events (scan round_after answer_in_turn r events) task)
            (is_member r.ready task inside)
            (histories.was_left answer_in_turn round_after (λ r. r.ready.capacity)
            (λ r. is_ready r.ready) rests rests_on keeps stays woken_in_turn r events task e),
      ),
  λ w. histories.is_left answer_in_turn round_after (λ r. r.ready.capacity)
      (λ r. is_ready r.ready) rests rests_on keeps stays woken_in_turn r events task w.0
      (subst (λ b. IsLeftReady b events (scan round_after answer_in_turn r events) task)
      (sym (is_member r.ready task w.0)) w.1),
)
  where
    last : Round
    last = fold round_after r events

    same : last.ready.capacity ≡ r.ready.capacity
    same = run_keeps round_after (λ r. r.ready.capacity) keeps r events

-- how many tasks of a set are ahead: they come before the task in turn
ahead : PlainSet → ℕ → ℕ → ℕ
ahead s turn task = count_below s.capacity (λ k. comes_before turn k task && s.has k)

-- the tasks ahead and the task itself are at most all tasks of the set
ahead_at_most : (s : PlainSet) (turn task : ℕ) → task < s.capacity → s.has task ≡ true →
    ahead s turn task + 1 ≤ size s
unfolding ahead
ahead_at_most s turn task h is =
    counts_less s.capacity task (λ k. comes_before turn k task && s.has k) s.has h
    (ap (λ b. b && s.has task) (comes_not turn task task never)) is
    (λ k l e. (and_parts (comes_before turn k task) (s.has k) e).1)
  where
    never : Comes turn task task → ⊥
    never (inl c) = omega (arith, c.1)
    never (inr (past, inl from)) = omega arith
    never (inr (past, inr below)) = omega arith

-- once the turn is past a task that was ahead, at least one task fewer is ahead
ahead_less : (s : PlainSet) (turn first task : ℕ) → first < s.capacity → s.has first ≡ true →
    Comes turn first task → ahead s (first + 1) task + 1 ≤ ahead s turn task
unfolding ahead
ahead_less s turn first task h is comes =
    counts_less s.capacity first (λ k. comes_before (first + 1) k task && s.has k)
    (λ k. comes_before turn k task && s.has k) h
    (ap (λ b. b && s.has first) (comes_not (first + 1) first task never))
    (ap (λ b. b && s.has first) (comes_is turn first task comes) ∙ is)
    (λ k l e.
    let parts = and_parts (comes_before (first + 1) k task) (s.has k) e in
    ap (λ b. b && s.has k)
    (comes_is turn k task (still k comes (comes_from (first + 1) k task parts.0))) ∙ parts.1)
  where
    never : Comes (first + 1) first task → ⊥
    never (inl c) = omega (arith, c.0)
    never (inr (past, inl from)) = omega arith
    never (inr (past, inr below)) = omega arith

    still : (k : ℕ) → Comes turn first task → Comes (first + 1) k task → Comes turn k task
    still k (inl c) (inl d) = inl (omega (arith, c.0, d.0), d.1)
    still k (inl c) (inr d) = absurd (omega (arith, c.1, d.0))
    still k (inr c) (inl d) = inr (c.0, inr d.1)
    still k (inr (past, inl from)) (inr (over, inl up)) = inr (past, inl (omega arith))
    still k (inr (past, inr below)) (inr (over, inl up)) = absurd (omega arith)
    still k (inr c) (inr (over, inr low)) = inr (c.0, inr low)

-- a task still comes before another once the turn is past a task that came before both
past_turn : (turn p task other : ℕ) → Comes turn p task → Comes turn task other →
    Comes (p + 1) task other
past_turn turn p task other (inl c) (inl d) = inl (omega (arith, c.1), d.1)
past_turn turn p task other (inl c) (inr (past, inl from)) =
    inr (omega (arith, past, c.0), inl (omega (arith, c.1)))
past_turn turn p task other (inl c) (inr (past, inr low)) = absurd (omega (arith, c.0, c.1))
past_turn turn p task other (inr c) (inl d) = absurd (omega (arith, c.0, d.0))
past_turn turn p task other (inr c) (inr (past, inl from)) = absurd (omega (arith, c.0))
past_turn turn p task other (inr (below, inl from)) (inr (past, inr low)) =
    inr (omega arith, inr low)
past_turn turn p task other (inr (below, inr less)) (inr (past, inr low)) = inl (omega arith, low)

-- once a task ran, each other task comes before it
comes_after_run : (p task other : ℕ) → p ≡ other → (p ≡ task → ⊥) → Comes (p + 1) task other
comes_after_run p task other same apart = elim (cases_lt task p) [
  | inl l ↦ inr (omega (arith, same), inr (omega (arith, same)))
  | inr g ↦ elim (cases_lt p task) [
    | inl m ↦ inr (omega (arith, same), inl (omega arith))
    | inr n ↦ absurd (apart (omega arith))
  ]
]

-- a ready task that comes before another runs before it, or is removed before it runs
runs_before : (r : Round) (events : List Event) (task other j : ℕ) → task < r.ready.capacity →
    r.ready.has task ≡ true → Comes r.turn task other →
    slice_get (scan round_after answer_in_turn r events) j ≡ Some (Runs other) →
    (k : ℕ) × (k < j) × IsTakenAt events (scan round_after answer_in_turn r events) task k
runs_before r [] task other j h ready comes e = absurd (cc)
runs_before r (Wake woken ∷ events) task other zero h ready comes e =
    absurd (woken_is_no_run (nat_lt woken r.ready.capacity) other (cc))
runs_before r (Wake woken ∷ events) task other (suc j) h ready comes e =
    let later = runs_before (round_after r (Wake woken)) events task other j
    (omega (arith, h, wakes_keep r.ready woken)) (still_ready r.ready woken task ready) comes e in
    (suc later.0, omega (arith, later.1), later.2)
runs_before r (Remove out ∷ events) task other zero h ready comes e =
    absurd (removed_is_no_run (is_ready r.ready out) other (cc))
runs_before r (Remove out ∷ events) task other (suc j) h ready comes e = elim (cases_eq task out) [
  | inl same ↦ (zero, omega arith, inr (ap (λ k. Some (Remove k)) (sym same)))
  | inr apart ↦
      let later = runs_before (round_after r (Remove out)) events task other j
      (omega (arith, h, removals_keep r.ready out))
      (removals_spare r.ready out task apart ready) comes e in
      (suc later.0, omega (arith, later.1), later.2)
]
runs_before r (Next ∷ events) task other j h ready comes e =
    by (λ t. runs_before t events task other) (next_in_turn r) (next_in_turn-is r) j e
  where
    by : ((t : Round) (i : ℕ) → task < t.ready.capacity → t.ready.has task ≡ true →
        Comes t.turn task other →
        slice_get (scan round_after answer_in_turn t events) i ≡ Some (Runs other) →
        (k : ℕ) × (k < i) × IsTakenAt events (scan round_after answer_in_turn t events) task k) →
        (o : Option ℕ) → MatchOption o (NoneIn r.ready 0 r.ready.capacity) (IsNextInTurn r) →
        (i : ℕ) → slice_get (runs_or_idle o
        ∷ scan round_after answer_in_turn (past_picked r o) events) i ≡ Some (Runs other) →
        (k : ℕ) × (k < i) × IsTakenAt (Next ∷ events) (runs_or_idle o
        ∷ scan round_after answer_in_turn (past_picked r o) events) task k
    by later None none i e = absurd (true≢false (sym ready ∙ none task (omega arith) h))
    by later (Some p) next zero e =
        let same : p ≡ other = cc in
        absurd (true≢false (sym ready ∙ next.none_before task h
        (ap (comes_before r.turn task) same ∙ comes_is r.turn task other comes)))
    by later (Some p) next (suc i) e = elim (cases_eq p task) [
      | inl same ↦ (zero, omega arith, inl (ap (λ k. Some (Runs k)) same))
      | inr apart ↦
          let first = picked_comes r p task next h ready apart in
          let run = later (round_at (without_task r.ready p) (p + 1)) i h
          (others_stay r.ready p task (λ e. apart (sym e)) ∙ ready)
          (past_turn r.turn p task other first comes) e in
          (suc run.0, omega (arith, run.1), run.2)
    ]

-- a ready task runs, or is removed, before any task runs again
pub runs_before_twice : (r : Round) (events : List Event) (task other i j : ℕ) →
    task < r.ready.capacity → r.ready.has task ≡ true → i < j →
    slice_get (answers_in_turn r events) i ≡ Some (Runs other) →
    slice_get (answers_in_turn r events) j ≡ Some (Runs other) →
    (k : ℕ) × (k < j) × IsTakenAt events (answers_in_turn r events) task k
unfolding answers_in_turn
runs_before_twice r events task other i zero h ready l a b = absurd (omega arith)
runs_before_twice r [] task other i (suc j) h ready l a b = absurd (cc)
runs_before_twice r (Wake woken ∷ events) task other zero (suc j) h ready l a b =
    absurd (woken_is_no_run (nat_lt woken r.ready.capacity) other (cc))
runs_before_twice r (Wake woken ∷ events) task other (suc i) (suc j) h ready l a b =
    let later = runs_before_twice (round_after r (Wake woken)) events task other i j
    (omega (arith, h, wakes_keep r.ready woken)) (still_ready r.ready woken task ready)
    (omega arith) a b in (suc later.0, omega (arith, later.1), later.2)
runs_before_twice r (Remove out ∷ events) task other zero (suc j) h ready l a b =
    absurd (removed_is_no_run (is_ready r.ready out) other (cc))
runs_before_twice r (Remove out ∷ events) task other (suc i) (suc j) h ready l a b =
    elim (cases_eq task out) [
      | inl same ↦ (zero, omega arith, inr (ap (λ k. Some (Remove k)) (sym same)))
      | inr apart ↦
          let later = runs_before_twice (round_after r (Remove out)) events task other i j
          (omega (arith, h, removals_keep r.ready out))
          (removals_spare r.ready out task apart ready) (omega arith) a b in
          (suc later.0, omega (arith, later.1), later.2)
    ]
runs_before_twice r (Next ∷ events) task other i (suc j) h ready l a b =
    by (λ t. runs_before_twice t events task other) (next_in_turn r) (next_in_turn-is r) i l a b
  where
    by : ((t : Round) (i j : ℕ) → task < t.ready.capacity → t.ready.has task ≡ true → i < j →
        slice_get (scan round_after answer_in_turn t events) i ≡ Some (Runs other) →
        slice_get (scan round_after answer_in_turn t events) j ≡ Some (Runs other) →
        (k : ℕ) × (k < j) × IsTakenAt events (scan round_after answer_in_turn t events) task k) →
        (o : Option ℕ) → MatchOption o (NoneIn r.ready 0 r.ready.capacity) (IsNextInTurn r) →
        (i : ℕ) → i < suc j → slice_get (runs_or_idle o
        ∷ scan round_after answer_in_turn (past_picked r o) events) i ≡ Some (Runs other) →
        slice_get (scan round_after answer_in_turn (past_picked r o) events) j ≡ Some (Runs other) →
        (k : ℕ) × (k < suc j) × IsTakenAt (Next ∷ events) (runs_or_idle o
        ∷ scan round_after answer_in_turn (past_picked r o) events) task k
    by later None none i l a b = absurd (true≢false (sym ready ∙ none task (omega arith) h))
    by later (Some p) next zero l a b = elim (cases_eq p task) [
      | inl is ↦ (zero, omega arith, inl (ap (λ k. Some (Runs k)) is))
      | inr apart ↦
          let same : p ≡ other = cc in
          let run = runs_before (round_at (without_task r.ready p) (p + 1)) events task other j h
          (others_stay r.ready p task (λ e. apart (sym e)) ∙ ready)
          (comes_after_run p task other same apart) b in
          (suc run.0, omega (arith, run.1), run.2)
    ]
    by later (Some p) next (suc i) l a b = elim (cases_eq p task) [
      | inl is ↦ (zero, omega arith, inl (ap (λ k. Some (Runs k)) is))
      | inr apart ↦
          let run = later (round_at (without_task r.ready p) (p + 1)) i j h
          (others_stay r.ready p task (λ e. apart (sym e)) ∙ ready) (omega arith) a b in
          (suc run.0, omega (arith, run.1), run.2)
    ]

-- if s has all tasks that may be ready, at most the tasks of s that are ahead run before a ready
-- task runs or is removed
module _ (s : PlainSet) (task : ℕ) (h : task < s.capacity) where
  record IsWithin (r : Round) (events : List Event) : Type 0 where
    same : r.ready.capacity ≡ s.capacity
    ready : r.ready.has task ≡ true
    members : (k : ℕ) → r.ready.has k ≡ true → s.has k ≡ true
    woken : (k : ℕ) → list_any (wakes k) events ≡ true → s.has k ≡ true
    steps : ahead s r.turn task + 1 ≤ count_by is_next events

  in_turn : (r : Round) (events : List Event) → IsWithin r events →
      IsTakenIn events (answers_in_turn r events) task
  unfolding answers_in_turn
  in_turn r [] w = absurd (omega (arith, w.steps))
  in_turn r (Wake other ∷ events) w = by (λ t. in_turn t events) (nat_lt other r.ready.capacity)
    where
      steps : count_by is_next (Wake other ∷ events) ≡ 0 + count_by is_next events
      steps = counts_item is_next (Wake other) events

      later_woken : (k : ℕ) → list_any (wakes k) events ≡ true → s.has k ≡ true
      later_woken k e = w.woken k (or_right (k == other) (list_any (wakes k) events) e)

      with_members : (k : ℕ) → ((k == other) || r.ready.has k) ≡ true → s.has k ≡ true
      with_members k e = elim (cases_Bool (k == other)) [
        | inl is ↦ w.woken k (ap (λ b. b || list_any (wakes k) events) is)
        | inr not ↦ w.members k (sym (ap (λ b. b || r.ready.has k) not) ∙ e)
      ]

      by : ((t : Round) → IsWithin t events →
          IsTakenIn events (scan round_after answer_in_turn t events) task) →
          (b : Bool) → IsTakenIn (Wake other ∷ events) (cond b Woken NoTask
          ∷ scan round_after answer_in_turn
          (round_at (cond b (with_task r.ready other) r.ready) r.turn) events) task
      by later true =
          let run = later (round_at (with_task r.ready other) r.turn) (record {
            same = w.same;
            ready = or_right (task == other) (r.ready.has task) w.ready;
            members = with_members;
            woken = later_woken;
            steps = omega (arith, w.steps, steps);
          }) in (suc run.0, run.1)
      by later false =
          let run = later (round_at r.ready r.turn) (record {
            same = w.same;
            ready = w.ready;
            members = w.members;
            woken = later_woken;
            steps = omega (arith, w.steps, steps);
          }) in (suc run.0, run.1)
  in_turn r (Remove other ∷ events) w = elim (cases_eq task other) [
    | inl same ↦ (zero, inr (ap (λ k. Some (Remove k)) (sym same)))
    | inr apart ↦
        let steps : count_by is_next (Remove other ∷ events) ≡ 0 + count_by is_next events =
        counts_item is_next (Remove other) events in
        let run = in_turn (round_after r (Remove other)) events (record {
          same = removals_keep r.ready other ∙ w.same;
          ready = removals_spare r.ready other task apart w.ready;
          members = λ k e. w.members k (removals_add_none r.ready other k e);
          woken = w.woken;
          steps = omega (arith, w.steps, steps);
        }) in (suc run.0, run.1)
  ]
  in_turn r (Next ∷ events) w = by (λ t. in_turn t events) (next_in_turn r) (next_in_turn-is r)
    where
      steps : count_by is_next (Next ∷ events) ≡ 1 + count_by is_next events
      steps = counts_item is_next Next events

      inside : task < r.ready.capacity
      inside = omega (arith, h, w.same)

      by : ((t : Round) → IsWithin t events →
          IsTakenIn events (scan round_after answer_in_turn t events) task) →
          (o : Option ℕ) →
          MatchOption o (NoneIn r.ready 0 r.ready.capacity) (IsNextInTurn r) →
          IsTakenIn (Next ∷ events) (runs_or_idle o
          ∷ scan round_after answer_in_turn (past_picked r o) events) task
      by later None none = absurd (true≢false (sym w.ready ∙ none task (omega arith) inside))
      by later (Some p) next =
          elim (cases_eq p task) [
            | inl same ↦ (zero, inl (ap (λ k. Some (Runs k)) same))
            | inr apart ↦
                let comes = picked_comes r p task next inside w.ready apart in
                let less = ahead_less s r.turn p task (omega (arith, next.within, w.same))
                (w.members p next.is_ready) comes in
                let run = later (round_at (without_task r.ready p) (p + 1)) (record {
                  same = w.same;
                  ready = others_stay r.ready p task (λ e. apart (sym e)) ∙ w.ready;
                  members = λ k e. w.members k (and_parts (not (k == p)) (r.ready.has k) e).1;
                  woken = w.woken;
                  steps = omega (arith, w.steps, steps, less);
                }) in (suc run.0, run.1)
          ]

-- a ready task runs, or is removed, within as many steps as there are tasks that are ready at first
-- or woken
pub in_their_turn : (r : Round) (events : List Event) (task : ℕ) → task < r.ready.capacity →
    r.ready.has task ≡ true → size (ever_ready r.ready events) ≤ count_by is_next events →
    IsTakenIn events (answers_in_turn r events) task
in_their_turn r events task h ready enough =
    let is = ap (λ b. b || list_any (wakes task) events) ready in
    let most = ahead_at_most (ever_ready r.ready events) r.turn task h is in
    in_turn (ever_ready r.ready events) task h r events (record {
      same = refl;
      ready = ready;
      members = λ k e. ap (λ b. b || list_any (wakes k) events) e;
      woken = λ k e. or_right (r.ready.has k) (list_any (wakes k) events) e;
      steps = omega (arith, most, enough);
    })

-- a ready task runs, or is removed, within as many steps as there are tasks
pub within_as_many_steps : (r : Round) (events : List Event) (task : ℕ) → task < r.ready.capacity →
    r.ready.has task ≡ true → r.ready.capacity ≤ count_by is_next events →
    IsTakenIn events (answers_in_turn r events) task
within_as_many_steps r events task h ready enough = in_their_turn r events task h ready
    (omega (arith, enough, size_at_most (ever_ready r.ready events)))
