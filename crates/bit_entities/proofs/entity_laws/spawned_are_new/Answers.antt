use Rattle.bit_entities.proofs.EntityLaws.{spawned_new}
use Rattle.bit_entities.proofs.entity_laws.spawned_are_new.Goals as goal

pub returns : goal.returns
returns c = spawned_new
