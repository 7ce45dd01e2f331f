use Rattle.bit_queue.proofs.QueueLaws.{ready_is_left}
use Rattle.bit_queue.proofs.queue_laws.ready_are_those_not_taken.Goals as goal

pub returns : goal.returns
returns c = ready_is_left
