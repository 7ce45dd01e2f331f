use Rattle.bit_entities.proofs.EntityLaws.{done_if}
use Rattle.bit_entities.proofs.entity_laws.done_exactly_if_possible.Goals as goal

pub returns : goal.returns
returns c = done_if
