use Rattle.bit_queue.proofs.RoundRobinLaws.{woken_first}
use Rattle.bit_queue.proofs.round_robin_laws.resting_tasks_are_woken_first.Goals as goal

pub returns : goal.returns
returns c = woken_first
