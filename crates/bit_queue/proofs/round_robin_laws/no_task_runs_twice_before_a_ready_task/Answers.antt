use Rattle.bit_queue.proofs.RoundRobinLaws.{runs_before_twice}
use Rattle.bit_queue.proofs.round_robin_laws.no_task_runs_twice_before_a_ready_task.Goals as goal

pub returns : goal.returns
returns c = runs_before_twice
