use Rattle.bit_entities.proofs.EntityLaws.{full_iff_all}
use Rattle.bit_entities.proofs.entity_laws.full_exactly_if_all_are_alive.Goals as goal

pub returns : goal.returns
returns c = full_iff_all
