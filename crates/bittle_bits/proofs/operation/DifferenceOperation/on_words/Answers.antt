use Rattle.bittle_bits.proofs.WordOperations.{digits_first_alone}
use Rattle.bittle_bits.proofs.operation.DifferenceOperation.on_words.Goals as goal

pub returns : goal.returns
returns g c = rw c.and.ensures (digits_first_alone _ _ _ _ c.not.ensures.range
    c.not.ensures.pattern)
