use Rattle.bit_queue.proofs.RoundRobinLaws.{no_task_is_past}
use Rattle.bit_queue.proofs.round_robin_laws.no_task_exactly_if_there_is_none.Goals as goal

pub returns : goal.returns
returns c = no_task_is_past
