use Rattle.bit_queue.proofs.QueueLaws.{woken_after_removals}
use Rattle.bit_queue.proofs.queue_laws.removed_tasks_are_woken_first.Goals as goal

pub returns : goal.returns
returns c = woken_after_removals
