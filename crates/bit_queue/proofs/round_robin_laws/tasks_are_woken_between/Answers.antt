use Rattle.bit_queue.proofs.RoundRobinLaws.{woken_between}
use Rattle.bit_queue.proofs.round_robin_laws.tasks_are_woken_between.Goals as goal

pub returns : goal.returns
returns c = woken_between
