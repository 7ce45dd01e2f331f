-- Laws of the queue machine, for all events.
use Rattle.std.specs.List.{count_by}
use Rattle.std.specs.Prelude.{◌≡◌, ℕ, ◌+◌, ◌<◌, ◌≤◌, ◌↔◌, ◌⊎◌, Bool, true, false, nat_lt, Some}
use Rattle.std.specs.Prelude.{List, slice_get}
use Rattle.bittle.specs.PlainSet.{PlainSet, members_below}
use Rattle.bittle.specs.Searches.{NoneIn}
use Rattle.bit_queue.specs.Queue.{is_ready, answer_to, state_after, event_answers, final_state}
use Rattle.bit_queue.specs.declared.Event.{Event}
use Rattle.bit_queue.specs.declared.Event.TheVariants.{Wake, Remove, Next}
use Rattle.bit_queue.specs.declared.Answer.{Answer}
use Rattle.bit_queue.specs.declared.Answer.TheVariants.{NoTask, Removed, NotReady, Runs, Idle}

-- the number is a task, it is ready, and no ready task is more urgent
pub record IsMostUrgent (s : PlainSet) (task : ℕ) : Type 0 where
  pub within : task < s.capacity
  pub is_ready : s.has task ≡ true
  pub none_above : (k : ℕ) → k < task → s.has k ≡ false

-- a task runs exactly if the event is a step and the task is the most urgent one
abbrev pub MostUrgentRuns : Type 0
MostUrgentRuns =
    (s : PlainSet) (event : Event) (task : ℕ)
    → (answer_to s event ≡ Runs task) ↔ ((event ≡ Next) × IsMostUrgent s task)

-- Idle is answered exactly if a step finds no task ready
abbrev pub IdleExactlyIfNoneIsReady : Type 0
IdleExactlyIfNoneIsReady =
    (s : PlainSet) (event : Event)
    → (answer_to s event ≡ Idle) ↔ ((event ≡ Next) × NoneIn s 0 s.capacity)

-- NoTask is answered exactly if an event wakes a number at or past the number of tasks
abbrev pub NoTaskExactlyIfThereIsNone : Type 0
NoTaskExactlyIfThereIsNone =
    (s : PlainSet) (event : Event)
    → (answer_to s event ≡ NoTask) ↔ ((task : ℕ) × (event ≡ Wake task) × (s.capacity ≤ task))

-- Removed is answered exactly if an event removes a task that is ready
abbrev pub RemovedExactlyIfReady : Type 0
RemovedExactlyIfReady =
    (s : PlainSet) (event : Event)
    → (answer_to s event ≡ Removed)
    ↔ ((task : ℕ) × (event ≡ Remove task) × (is_ready s task ≡ true))

-- NotReady is answered exactly if an event removes a number that is no ready task
abbrev pub NotReadyExactlyIfNotReady : Type 0
NotReadyExactlyIfNotReady =
    (s : PlainSet) (event : Event)
    → (answer_to s event ≡ NotReady)
    ↔ ((task : ℕ) × (event ≡ Remove task) × (is_ready s task ≡ false))

-- an event that is refused (answered by NoTask or NotReady) or answered by Idle changes nothing
abbrev pub RefusedAndIdleChangeNothing : Type 0
RefusedAndIdleChangeNothing =
    (s : PlainSet) (event : Event)
    → (answer_to s event ≡ NoTask) ⊎ ((answer_to s event ≡ NotReady) ⊎ (answer_to s event ≡ Idle))
    → state_after s event ≡ s

-- a task is woken before it runs
abbrev pub IsWokenFirst : List Event → List Answer → ℕ → Type 0
IsWokenFirst events answers task =
    (j : ℕ)
    → slice_get answers j ≡ Some (Runs task)
    → (k : ℕ) × (k < j) × (slice_get events k ≡ Some (Wake task))

-- a task is woken between any two times that it runs
abbrev pub IsWokenBetween : List Event → List Answer → ℕ → Type 0
IsWokenBetween events answers task =
    (i j : ℕ)
    → i < j
    → slice_get answers i ≡ Some (Runs task)
    → slice_get answers j ≡ Some (Runs task)
    → (k : ℕ) × (i < k) × (k < j) × (slice_get events k ≡ Some (Wake task))

-- after an event that removes a task, the task is woken before it runs
abbrev pub IsWokenAfterRemovals : List Event → List Answer → ℕ → Type 0
IsWokenAfterRemovals events answers task =
    (i j : ℕ)
    → i < j
    → slice_get events i ≡ Some (Remove task)
    → slice_get answers j ≡ Some (Runs task)
    → (k : ℕ) × (i < k) × (k < j) × (slice_get events k ≡ Some (Wake task))

-- a task that is not ready runs only after it was woken
abbrev pub RestingTasksAreWokenFirst : Type 0
RestingTasksAreWokenFirst =
    (s : PlainSet) (events : List Event) (task : ℕ)
    → s.has task ≡ false
    → IsWokenFirst events (event_answers s events) task

-- a task that runs again was woken since it last ran
abbrev pub TasksAreWokenBetween : Type 0
TasksAreWokenBetween =
    (s : PlainSet) (events : List Event) (task : ℕ)
    → IsWokenBetween events (event_answers s events) task

-- a task that an event removes, whether it was ready or not, runs only after it was woken again
abbrev pub RemovedTasksAreWokenFirst : Type 0
RemovedTasksAreWokenFirst =
    (s : PlainSet) (events : List Event) (task : ℕ)
    → IsWokenAfterRemovals events (event_answers s events) task

-- the task is taken out at the place `k`: the answer there says that it runs, or the event there
-- removes it
abbrev pub IsTakenAt : List Event → List Answer → ℕ → ℕ → Type 0
IsTakenAt events answers task k =
    (slice_get answers k ≡ Some (Runs task)) ⊎ (slice_get events k ≡ Some (Remove task))

-- the task is not taken out at the place `from` or later
abbrev pub NeverTakenFrom : ℕ → List Event → List Answer → ℕ → Type 0
NeverTakenFrom from events answers task =
    (j : ℕ) → from ≤ j → IsTakenAt events answers task j → ⊥

-- the task was ready before the events and is not taken out, or an event wakes it and it is not
-- taken out after that event
abbrev pub IsLeftReady : Bool → List Event → List Answer → ℕ → Type 0
IsLeftReady before events answers task =
    ((before ≡ true) × NeverTakenFrom 0 events answers task)
    ⊎ ((k : ℕ)
    × (slice_get events k ≡ Some (Wake task))
    × NeverTakenFrom (k + 1) events answers task)

-- a task is ready after a list of events exactly if the events and their answers leave it ready
abbrev pub ReadyAreThoseNotTaken : Type 0
ReadyAreThoseNotTaken =
    (s : PlainSet) (events : List Event) (task : ℕ)
    → (is_ready (final_state s events) task ≡ true)
    ↔ ((task < s.capacity) × IsLeftReady (s.has task) events (event_answers s events) task)

-- whether an event is a step
abbrev pub is_next : Event → Bool
is_next (Wake task) = false
is_next (Remove task) = false
is_next Next = true

-- whether an event wakes a task that is more urgent than this one
abbrev pub wakes_more_urgent : ℕ → Event → Bool
wakes_more_urgent task (Wake other) = nat_lt other task
wakes_more_urgent task (Remove other) = false
wakes_more_urgent task Next = false

-- the task runs, or an event removes it
abbrev pub IsTakenIn : List Event → List Answer → ℕ → Type 0
IsTakenIn events answers task = (k : ℕ) × IsTakenAt events answers task k

-- a ready task that no event removes runs within m + w + 1 steps: m is how many of the other ready
-- tasks are more urgent than this task, and w is how often tasks more urgent than it are woken
abbrev pub TasksRunInTime : Type 0
TasksRunInTime =
    (s : PlainSet) (events : List Event) (task : ℕ)
    → task < s.capacity
    → s.has task ≡ true
    → members_below s task + count_by (wakes_more_urgent task) events + 1
    ≤ count_by is_next events
    → IsTakenIn events (event_answers s events) task
