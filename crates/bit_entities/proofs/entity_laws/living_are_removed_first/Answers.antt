use Rattle.bit_entities.proofs.Histories.{removed_first}
use Rattle.bit_entities.proofs.entity_laws.living_are_removed_first.Goals as goal

pub returns : goal.returns
returns c = removed_first
