use Rattle.bittle_bits.proofs.WordOperations.{digits_just_one}
use Rattle.bittle_bits.proofs.operation.SymmetricDifferenceOperation.on_words.Goals as goal

pub returns : goal.returns
returns g c = rw c.xor.ensures (digits_just_one _ _ _)
