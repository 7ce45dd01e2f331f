use Rattle.bit_histories.proofs.Histories.{answered_at}
use Rattle.bit_queue.specs.RoundRobin.{answer_in_turn, round_after, answers_in_turn, final_round}
use Rattle.bit_queue.proofs.round_robin_laws.answers_are_of_their_rounds.Goals as goal

pub returns : goal.returns
unfolding answers_in_turn final_round
returns c = answered_at answer_in_turn round_after
