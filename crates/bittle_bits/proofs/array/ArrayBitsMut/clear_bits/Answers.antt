use Rattle.bittle_bits.proofs.Sizes.{size_emptied}
use Rattle.bittle_bits.proofs.array.ArrayBitsMut.clear_bits.Goals as goal

pub returns-clause-count : goal.returns-clause-count
returns-clause-count g c = size_emptied _ _
    (rw (c.clear_bits.auto.elements, c.told-self) at c.clear_bits.ensures)
