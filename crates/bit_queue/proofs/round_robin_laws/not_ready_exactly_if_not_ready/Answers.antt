use Rattle.bit_queue.proofs.RoundRobinLaws.{refused_is_not_ready}
use Rattle.bit_queue.proofs.round_robin_laws.not_ready_exactly_if_not_ready.Goals as goal

pub returns : goal.returns
returns c = refused_is_not_ready
