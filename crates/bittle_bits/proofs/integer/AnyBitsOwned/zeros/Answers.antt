use Rattle.bittle_bits.proofs.Sizes.{size_emptied}
use Rattle.bittle_bits.proofs.integer.AnyBitsOwned.zeros.Goals as goal

pub returns-clause-count : goal.returns-clause-count
returns-clause-count g c = rw (g.met.W.Integer.is_word.big_is_pattern c.zeros.result)
    (size_emptied _ _ c.zeros.ensures.value)
