use Rattle.bittle_bits.proofs.WordOperations.{digits_both}
use Rattle.bittle_bits.proofs.operation.ConjunctionOperation.on_words.Goals as goal

pub returns : goal.returns
returns g c = rw c.and.ensures (digits_both _ _ _)
