use Rattle.bittle_bits.proofs.WordOperations.{digits_either}
use Rattle.bittle_bits.proofs.operation.UnionOperation.on_words.Goals as goal

pub returns : goal.returns
returns g c = rw c.or.ensures (digits_either _ _ _)
