use Rattle.bit_queue.proofs.RoundRobinLaws.{woken_after_removals}
use Rattle.bit_queue.proofs.round_robin_laws.removed_tasks_are_woken_first.Goals as goal

pub returns : goal.returns
returns c = woken_after_removals
