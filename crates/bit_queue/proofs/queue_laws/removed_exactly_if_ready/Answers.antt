use Rattle.bit_queue.proofs.QueueLaws.{removed_is_ready}
use Rattle.bit_queue.proofs.queue_laws.removed_exactly_if_ready.Goals as goal

pub returns : goal.returns
returns c = removed_is_ready
