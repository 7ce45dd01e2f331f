use Rattle.bit_entities.proofs.Counts.{counted}
use Rattle.bit_entities.proofs.entity_laws.living_are_counted.Goals as goal

pub returns : goal.returns
returns c = counted
