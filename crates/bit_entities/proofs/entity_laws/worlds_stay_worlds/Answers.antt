use Rattle.bit_entities.proofs.EntityLaws.{stay_worlds}
use Rattle.bit_entities.proofs.entity_laws.worlds_stay_worlds.Goals as goal

pub returns : goal.returns
returns c = stay_worlds
