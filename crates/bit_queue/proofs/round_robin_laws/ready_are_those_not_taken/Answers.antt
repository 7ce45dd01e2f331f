use Rattle.bit_queue.proofs.RoundRobinLaws.{ready_is_left}
use Rattle.bit_queue.proofs.round_robin_laws.ready_are_those_not_taken.Goals as goal

pub returns : goal.returns
returns c = ready_is_left
