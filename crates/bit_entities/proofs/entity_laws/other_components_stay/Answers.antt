use Rattle.bit_entities.proofs.Others.{components_stay}
use Rattle.bit_entities.proofs.entity_laws.other_components_stay.Goals as goal

pub returns : goal.returns
returns c = components_stay
