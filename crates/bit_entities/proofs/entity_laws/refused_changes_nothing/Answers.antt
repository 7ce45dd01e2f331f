use Rattle.bit_entities.proofs.EntityLaws.{refused_nothing}
use Rattle.bit_entities.proofs.entity_laws.refused_changes_nothing.Goals as goal

pub returns : goal.returns
returns c = refused_nothing
