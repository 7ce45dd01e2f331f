use Rattle.bittle_lemmas.proofs.FoundNumbers.{first_in_same}
use Rattle.bittle_ext_uses.proofs.found_bits.first_wide_bay.Goals as goal

pub returns : goal.returns
returns c = first_in_same _ _ 0 200 _ c.minus.ensures.set c.first_one_in_range.ensures.first
