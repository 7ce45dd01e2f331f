use Rattle.bit_entities.proofs.Others.{sizes_stay}
use Rattle.bit_entities.proofs.entity_laws.sizes_stay.Goals as goal

pub returns : goal.returns
returns c = sizes_stay
