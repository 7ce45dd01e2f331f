use Rattle.bit_entities.proofs.Histories.{removed_between}
use Rattle.bit_entities.proofs.entity_laws.spawned_are_removed_between.Goals as goal

pub returns : goal.returns
returns c = removed_between
