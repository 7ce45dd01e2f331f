use Rattle.bit_queue.proofs.QueueLaws.{idle_is_none}
use Rattle.bit_queue.proofs.queue_laws.idle_exactly_if_none_is_ready.Goals as goal

pub returns : goal.returns
returns c = idle_is_none
