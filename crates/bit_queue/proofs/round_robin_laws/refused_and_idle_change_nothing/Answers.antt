use Rattle.bit_queue.proofs.RoundRobinLaws.{changes_no_round}
use Rattle.bit_queue.proofs.round_robin_laws.refused_and_idle_change_nothing.Goals as goal

pub returns : goal.returns
returns c = changes_no_round
