use Rattle.bit_queue.proofs.RoundRobinLaws.{turn_is_past}
use Rattle.bit_queue.proofs.round_robin_laws.turn_is_past_the_last_run.Goals as goal

pub returns : goal.returns
returns c = turn_is_past
