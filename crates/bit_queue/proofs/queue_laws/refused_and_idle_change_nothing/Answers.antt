use Rattle.bit_queue.proofs.QueueLaws.{changes_nothing}
use Rattle.bit_queue.proofs.queue_laws.refused_and_idle_change_nothing.Goals as goal

pub returns : goal.returns
returns c = changes_nothing
