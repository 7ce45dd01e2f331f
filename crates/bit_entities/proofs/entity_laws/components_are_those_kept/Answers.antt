use Rattle.bit_entities.proofs.Histories.{kept_iff}
use Rattle.bit_entities.proofs.entity_laws.components_are_those_kept.Goals as goal

pub returns : goal.returns
returns c = kept_iff
