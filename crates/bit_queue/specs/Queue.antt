-- The queue machine: its state is the set of the tasks that are ready, and each event has an answer
-- and a next state. A task is a number below the capacity, and a lesser one is more urgent.
use Rattle.std.specs.List.{fold, scan}
use Rattle.std.specs.Prelude.{ℕ, Bool, not, ◌&&◌, ◌||◌, ◌==◌, nat_lt, if◌then◌else◌}
use Rattle.std.specs.Prelude.{Option, Some, None, List, slice_get}
use Rattle.bittle.specs.PlainSet.{PlainSet, ascending}
use Rattle.bit_queue.specs.declared.Event.{Event}
use Rattle.bit_queue.specs.declared.Event.TheVariants.{Wake, Remove, Next}
use Rattle.bit_queue.specs.declared.Answer.{Answer}
use Rattle.bit_queue.specs.declared.Answer.TheVariants.{Woken, NoTask, Removed, NotReady, Runs}
use Rattle.bit_queue.specs.declared.Answer.TheVariants.{Idle}

-- whether the number is a task, and ready
abbrev pub is_ready : PlainSet → ℕ → Bool
is_ready s task = nat_lt task s.capacity && s.has task

-- the most urgent ready task, which is the first in increasing order, or None if no task is ready
abbrev pub most_urgent : PlainSet → Option ℕ
most_urgent s = slice_get (ascending s) 0

-- the ready tasks, and the task `task` too
abbrev pub with_task : PlainSet → ℕ → PlainSet
with_task s task = record { capacity = s.capacity; has = λ k. (k == task) || s.has k }

-- the ready tasks without the task `task`
abbrev pub without_task : PlainSet → ℕ → PlainSet
without_task s task = record { capacity = s.capacity; has = λ k. not (k == task) && s.has k }

-- the answer to a request to wake a task; a number past the last task is refused
abbrev pub woken_or_none : PlainSet → ℕ → Answer
woken_or_none s task = if nat_lt task s.capacity then Woken else NoTask

-- the ready tasks after a request to wake a task; a number past the last task changes nothing
abbrev pub with_woken : PlainSet → ℕ → PlainSet
with_woken s task = if nat_lt task s.capacity then with_task s task else s

-- the answer to a request to remove a task; a task that is not ready is refused
abbrev pub removed_or_not : PlainSet → ℕ → Answer
removed_or_not s task = if is_ready s task then Removed else NotReady

-- the ready tasks after a request to remove a task; a task that is not ready changes nothing
abbrev pub with_removed : PlainSet → ℕ → PlainSet
with_removed s task = if is_ready s task then without_task s task else s

-- the answer of a step: the task that was picked runs, or Idle if none was picked
abbrev pub runs_or_idle : Option ℕ → Answer
runs_or_idle None = Idle
runs_or_idle (Some task) = Runs task

-- the ready tasks after a step: the one that was picked is taken out
abbrev pub without_picked : PlainSet → Option ℕ → PlainSet
without_picked s None = s
without_picked s (Some task) = without_task s task

-- the answer to an event
abbrev pub answer_to : PlainSet → Event → Answer
answer_to s (Wake task) = woken_or_none s task
answer_to s (Remove task) = removed_or_not s task
answer_to s Next = runs_or_idle (most_urgent s)

-- the ready tasks after an event
abbrev pub state_after : PlainSet → Event → PlainSet
state_after s (Wake task) = with_woken s task
state_after s (Remove task) = with_removed s task
state_after s Next = without_picked s (most_urgent s)

-- the answers to a list of events
unfoldable pub event_answers : PlainSet → List Event → List Answer
event_answers s events = scan state_after answer_to s events

-- the ready tasks after a list of events
unfoldable pub final_state : PlainSet → List Event → PlainSet
final_state s events = fold state_after s events
