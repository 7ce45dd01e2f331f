use Rattle.bit_queue.proofs.QueueLaws.{woken_between}
use Rattle.bit_queue.proofs.queue_laws.tasks_are_woken_between.Goals as goal

pub returns : goal.returns
returns c = woken_between
