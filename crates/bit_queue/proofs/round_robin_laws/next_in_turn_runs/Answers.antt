use Rattle.bit_queue.proofs.RoundRobinLaws.{runs_is_next_in_turn}
use Rattle.bit_queue.proofs.round_robin_laws.next_in_turn_runs.Goals as goal

pub returns : goal.returns
returns c = runs_is_next_in_turn
