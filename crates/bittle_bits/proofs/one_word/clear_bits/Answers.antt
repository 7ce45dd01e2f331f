use Rattle.bittle_bits.proofs.BitSets.{no_digits}
use Rattle.bittle_bits.proofs.one_word.clear_bits.Goals as goal

pub returns : goal.returns
returns g c = no_digits _ _ c.zero.ensures
