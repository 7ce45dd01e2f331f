use Rattle.bit_queue.proofs.QueueLaws.{runs_is_most_urgent}
use Rattle.bit_queue.proofs.queue_laws.most_urgent_runs.Goals as goal

pub returns : goal.returns
returns c = runs_is_most_urgent
