use Rattle.bittle_bits.proofs.Sizes.{size_emptied}
use Rattle.bittle_bits.proofs.slice.RefMutSliceBitsMut.clear_bits.Goals as goal

pub returns-clause-count : goal.returns-clause-count
returns-clause-count g c = size_emptied _ _ c.clear_bits.ensures
