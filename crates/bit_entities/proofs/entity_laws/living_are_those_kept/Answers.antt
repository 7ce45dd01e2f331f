use Rattle.bit_entities.proofs.Histories.{lives_iff}
use Rattle.bit_entities.proofs.entity_laws.living_are_those_kept.Goals as goal

pub returns : goal.returns
returns c = λ w events entity. lives_iff entity w events
