use Rattle.bit_entities.proofs.EntityLaws.{new_worlds}
use Rattle.bit_entities.proofs.entity_laws.dead_have_nothing.Goals as goal

pub returns : goal.returns
returns c = new_worlds
