use Rattle.bit_histories.proofs.Histories.{history_is_list}
use Rattle.bit_queue.specs.Queue.{answer_to, state_after, event_answers, final_state}
use Rattle.bit_queue.proofs.queue_laws.calls_answer_as_lists.Goals as goal

pub returns : goal.returns
unfolding event_answers final_state
returns c = history_is_list answer_to state_after
