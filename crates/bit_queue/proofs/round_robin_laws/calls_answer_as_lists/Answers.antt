use Rattle.bit_histories.proofs.Histories.{history_is_list}
use Rattle.bit_queue.specs.RoundRobin.{answer_in_turn, round_after, answers_in_turn, final_round}
use Rattle.bit_queue.proofs.round_robin_laws.calls_answer_as_lists.Goals as goal

pub returns : goal.returns
unfolding answers_in_turn final_round
returns c = history_is_list answer_in_turn round_after
