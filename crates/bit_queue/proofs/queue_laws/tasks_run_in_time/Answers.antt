use Rattle.bit_queue.proofs.QueueLaws.{in_time}
use Rattle.bit_queue.proofs.queue_laws.tasks_run_in_time.Goals as goal

pub returns : goal.returns
returns c = in_time
