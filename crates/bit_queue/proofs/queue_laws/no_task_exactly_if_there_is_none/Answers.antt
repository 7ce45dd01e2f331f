use Rattle.bit_queue.proofs.QueueLaws.{no_task_is_past}
use Rattle.bit_queue.proofs.queue_laws.no_task_exactly_if_there_is_none.Goals as goal

pub returns : goal.returns
returns c = no_task_is_past
