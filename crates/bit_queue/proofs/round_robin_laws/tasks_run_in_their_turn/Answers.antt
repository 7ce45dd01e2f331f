use Rattle.bit_queue.proofs.RoundRobinLaws.{in_their_turn}
use Rattle.bit_queue.proofs.round_robin_laws.tasks_run_in_their_turn.Goals as goal

pub returns : goal.returns
returns c = in_their_turn
