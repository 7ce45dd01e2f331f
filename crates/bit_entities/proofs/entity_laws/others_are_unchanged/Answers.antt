use Rattle.bit_entities.proofs.Others.{unchanged}
use Rattle.bit_entities.proofs.entity_laws.others_are_unchanged.Goals as goal

pub returns : goal.returns
returns c = unchanged
