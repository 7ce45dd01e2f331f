use Rattle.bit_entities.specs.Entities.{matching}
use Rattle.bit_entities.proofs.Matches.{visits_exactly}
use Rattle.bit_entities.proofs.entity_laws.queries_visit_each_once.Goals as goal

pub returns : goal.returns
returns c w required visited = visits_exactly (matching w required) visited
