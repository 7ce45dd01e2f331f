use Rattle.bit_entities.proofs.EntityLaws.{spawned_iff}
use Rattle.bit_entities.proofs.entity_laws.spawned_exactly_if_least.Goals as goal

pub returns : goal.returns
returns c = spawned_iff
