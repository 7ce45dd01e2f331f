use Rattle.bit_histories.proofs.Histories.{answered_at}
use Rattle.bit_queue.specs.Queue.{answer_to, state_after, event_answers, final_state}
use Rattle.bit_queue.proofs.queue_laws.answers_are_of_their_states.Goals as goal

pub returns : goal.returns
unfolding event_answers final_state
returns c = answered_at answer_to state_after
