use Rattle.bit_queue.proofs.RoundRobinLaws.{within_as_many_steps}
use Rattle.bit_queue.proofs.round_robin_laws.tasks_run_within_as_many_steps.Goals as goal

pub returns : goal.returns
returns c = within_as_many_steps
