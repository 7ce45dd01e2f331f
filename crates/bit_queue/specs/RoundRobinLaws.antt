-- Laws of the round-robin machine, for all events.
use Rattle.std.specs.List.{count_by, fold, list_any}
use Rattle.std.specs.Prelude.{◌≡◌, ℕ, ◌+◌, ◌<◌, ◌≤◌, ◌↔◌, ◌⊎◌, Bool, true, false, ◌&&◌, ◌||◌, ◌==◌}
use Rattle.std.specs.Prelude.{nat_le, nat_lt, if◌then◌else◌, Some, List, slice_get}
use Rattle.bittle.specs.PlainSet.{PlainSet, size}
use Rattle.bittle.specs.Searches.{NoneIn}
use Rattle.bit_queue.specs.Queue.{is_ready}
use Rattle.bit_queue.specs.RoundRobin.{Round, answer_in_turn, round_after, answers_in_turn}
use Rattle.bit_queue.specs.RoundRobin.{final_round}
use Rattle.bit_queue.specs.QueueLaws.{IsWokenFirst, IsWokenBetween, IsWokenAfterRemovals}
use Rattle.bit_queue.specs.QueueLaws.{IsLeftReady, is_next, IsTakenAt, IsTakenIn}
use Rattle.bit_queue.specs.declared.Event.{Event}
use Rattle.bit_queue.specs.declared.Event.TheVariants.{Wake, Remove, Next}
use Rattle.bit_queue.specs.declared.Answer.{Answer}
use Rattle.bit_queue.specs.declared.Answer.TheVariants.{Woken, NoTask, Removed, NotReady, Runs}
use Rattle.bit_queue.specs.declared.Answer.TheVariants.{Idle}

-- whether the task `one` comes before the task `other` in turn: the tasks from the turn on come
-- first, in increasing order, and then those before the turn, in increasing order too
abbrev pub comes_before : ℕ → ℕ → ℕ → Bool
comes_before turn one other = if nat_le turn other
    then (nat_le turn one && nat_lt one other)
    else (nat_le turn one || nat_lt one other)

-- the number is a task, it is ready, and no ready task comes before it in turn
pub record IsNextInTurn (r : Round) (task : ℕ) : Type 0 where
  pub within : task < r.ready.capacity
  pub is_ready : r.ready.has task ≡ true
  pub none_before : (k : ℕ) → k < r.ready.capacity → comes_before r.turn k task ≡ true →
      r.ready.has k ≡ false

-- a task runs exactly if the event is a step and the task is the next in turn
abbrev pub NextInTurnRuns : Type 0
NextInTurnRuns =
    (r : Round) (event : Event) (task : ℕ)
    → (answer_in_turn r event ≡ Runs task) ↔ ((event ≡ Next) × IsNextInTurn r task)

-- Idle is answered exactly if a step finds no task ready
abbrev pub RoundIsIdleExactlyIfNoneIsReady : Type 0
RoundIsIdleExactlyIfNoneIsReady =
    (r : Round) (event : Event)
    → (answer_in_turn r event ≡ Idle) ↔ ((event ≡ Next) × NoneIn r.ready 0 r.ready.capacity)

-- NoTask is answered exactly if an event wakes a number at or past the number of tasks
abbrev pub RoundHasNoTaskExactlyIfThereIsNone : Type 0
RoundHasNoTaskExactlyIfThereIsNone =
    (r : Round) (event : Event)
    → (answer_in_turn r event ≡ NoTask)
    ↔ ((task : ℕ) × (event ≡ Wake task) × (r.ready.capacity ≤ task))

-- Removed is answered exactly if an event removes a task that is ready
abbrev pub RoundRemovesExactlyIfReady : Type 0
RoundRemovesExactlyIfReady =
    (r : Round) (event : Event)
    → (answer_in_turn r event ≡ Removed)
    ↔ ((task : ℕ) × (event ≡ Remove task) × (is_ready r.ready task ≡ true))

-- NotReady is answered exactly if an event removes a number that is no ready task
abbrev pub RoundIsNotReadyExactlyIfNotReady : Type 0
RoundIsNotReadyExactlyIfNotReady =
    (r : Round) (event : Event)
    → (answer_in_turn r event ≡ NotReady)
    ↔ ((task : ℕ) × (event ≡ Remove task) × (is_ready r.ready task ≡ false))

-- an event that is refused (answered by NoTask or NotReady) or answered by Idle changes neither the
-- ready tasks nor the turn
abbrev pub RefusedAndIdleChangeNoRound : Type 0
RefusedAndIdleChangeNoRound =
    (r : Round) (event : Event)
    → (answer_in_turn r event ≡ NoTask)
    ⊎ ((answer_in_turn r event ≡ NotReady) ⊎ (answer_in_turn r event ≡ Idle))
    → round_after r event ≡ r

-- the turn after an answer: one more than the task that runs, or else as before
abbrev pub turn_after : ℕ → Answer → ℕ
turn_after turn (Runs task) = task + 1
turn_after turn Woken = turn
turn_after turn NoTask = turn
turn_after turn Removed = turn
turn_after turn NotReady = turn
turn_after turn Idle = turn

-- the turn after a list of events is one more than the task that ran last, or as before if none ran
abbrev pub TurnIsPastTheLastRun : Type 0
TurnIsPastTheLastRun =
    (r : Round) (events : List Event)
    → (final_round r events).turn ≡ fold turn_after r.turn (answers_in_turn r events)

-- a task that is not ready runs only after it was woken
abbrev pub RestingTasksAreWokenFirstInTurn : Type 0
RestingTasksAreWokenFirstInTurn =
    (r : Round) (events : List Event) (task : ℕ)
    → r.ready.has task ≡ false
    → IsWokenFirst events (answers_in_turn r events) task

-- a task that runs again was woken since it last ran
abbrev pub TasksAreWokenBetweenTurns : Type 0
TasksAreWokenBetweenTurns =
    (r : Round) (events : List Event) (task : ℕ)
    → IsWokenBetween events (answers_in_turn r events) task

-- a task that an event removes, whether it was ready or not, runs only after it was woken again
abbrev pub RemovedTasksAreWokenFirstInTurn : Type 0
RemovedTasksAreWokenFirstInTurn =
    (r : Round) (events : List Event) (task : ℕ)
    → IsWokenAfterRemovals events (answers_in_turn r events) task

-- a task is ready after a list of events exactly if the events and their answers leave it ready
abbrev pub ReadyAreThoseNotTakenInTurn : Type 0
ReadyAreThoseNotTakenInTurn =
    (r : Round) (events : List Event) (task : ℕ)
    → (is_ready (final_round r events).ready task ≡ true)
    ↔ ((task < r.ready.capacity)
    × IsLeftReady (r.ready.has task) events (answers_in_turn r events) task)

-- no task runs twice while a ready task waits: before any task runs again, a ready task runs, or an
-- event removes it
abbrev pub NoTaskRunsTwiceBeforeAReadyTask : Type 0
NoTaskRunsTwiceBeforeAReadyTask =
    (r : Round) (events : List Event) (task other i j : ℕ)
    → task < r.ready.capacity
    → r.ready.has task ≡ true
    → i < j
    → slice_get (answers_in_turn r events) i ≡ Some (Runs other)
    → slice_get (answers_in_turn r events) j ≡ Some (Runs other)
    → (k : ℕ) × (k < j) × IsTakenAt events (answers_in_turn r events) task k

-- whether an event wakes the task `task`
abbrev pub wakes : ℕ → Event → Bool
wakes task (Wake other) = task == other
wakes task (Remove other) = false
wakes task Next = false

-- the set of the tasks that are ready at first or woken by one of the events
abbrev pub ever_ready : PlainSet → List Event → PlainSet
ever_ready s events = record {
  capacity = s.capacity;
  has = λ k. s.has k || list_any (wakes k) events;
}

-- a ready task that no event removes runs within as many steps as there are tasks that are ready at
-- first or woken meanwhile, however often each is woken
abbrev pub TasksRunInTheirTurn : Type 0
TasksRunInTheirTurn =
    (r : Round) (events : List Event) (task : ℕ)
    → task < r.ready.capacity
    → r.ready.has task ≡ true
    → size (ever_ready r.ready events) ≤ count_by is_next events
    → IsTakenIn events (answers_in_turn r events) task

-- a ready task that no event removes runs within as many steps as there are tasks, whatever is
-- woken
abbrev pub TasksRunWithinAsManySteps : Type 0
TasksRunWithinAsManySteps =
    (r : Round) (events : List Event) (task : ℕ)
    → task < r.ready.capacity
    → r.ready.has task ≡ true
    → r.ready.capacity ≤ count_by is_next events
    → IsTakenIn events (answers_in_turn r events) task
