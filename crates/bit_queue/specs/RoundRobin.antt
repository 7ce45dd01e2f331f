-- The round-robin machine: its state is the set of the ready tasks, and the turn. The turn is one
-- more than the number of the task that ran last.
use Rattle.std.specs.List.{fold, scan}
use Rattle.std.specs.Prelude.{ℕ, ◌+◌, ◌&&◌, nat_le}
use Rattle.std.specs.Prelude.{Option, Some, None, List}
use Rattle.bittle.specs.PlainSet.{PlainSet}
use Rattle.bit_queue.specs.Queue.{most_urgent, without_task, woken_or_none, with_woken}
use Rattle.bit_queue.specs.Queue.{removed_or_not, with_removed, runs_or_idle}
use Rattle.bit_queue.specs.declared.Event.{Event}
use Rattle.bit_queue.specs.declared.Event.TheVariants.{Wake, Remove, Next}
use Rattle.bit_queue.specs.declared.Answer.{Answer}

-- the tasks that are ready, and the number that the turn has come to
pub record Round : Type 0 where
  pub ready : PlainSet
  pub turn : ℕ

-- the round of these ready tasks and this turn
abbrev pub round_at : PlainSet → ℕ → Round
round_at s turn = record { ready = s; turn = turn }

-- the ready tasks from the turn on
abbrev pub to_come : Round → PlainSet
to_come r = record {
  capacity = r.ready.capacity;
  has = λ k. nat_le r.turn k && r.ready.has k;
}

-- the first argument if it is a task, or else the second
abbrev pub found_or : Option ℕ → Option ℕ → Option ℕ
found_or None other = other
found_or (Some task) other = Some task

-- the next ready task: the first from the turn on, or else the first of all
abbrev pub next_in_turn : Round → Option ℕ
next_in_turn r = found_or (most_urgent (to_come r)) (most_urgent r.ready)

-- the round after a step: the task that was picked is taken out, and the turn is one more than it
abbrev pub past_picked : Round → Option ℕ → Round
past_picked r None = r
past_picked r (Some task) = round_at (without_task r.ready task) (task + 1)

-- the answer to an event
abbrev pub answer_in_turn : Round → Event → Answer
answer_in_turn r (Wake task) = woken_or_none r.ready task
answer_in_turn r (Remove task) = removed_or_not r.ready task
answer_in_turn r Next = runs_or_idle (next_in_turn r)

-- the state of the queue (ready tasks and turn) after an event
abbrev pub round_after : Round → Event → Round
round_after r (Wake task) = round_at (with_woken r.ready task) r.turn
round_after r (Remove task) = round_at (with_removed r.ready task) r.turn
round_after r Next = past_picked r (next_in_turn r)

-- the answers to a list of events
unfoldable pub answers_in_turn : Round → List Event → List Answer
answers_in_turn r events = scan round_after answer_in_turn r events

-- the round after a list of events
unfoldable pub final_round : Round → List Event → Round
final_round r events = fold round_after r events
