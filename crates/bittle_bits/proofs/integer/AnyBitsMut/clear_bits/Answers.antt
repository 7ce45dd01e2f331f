use Rattle.bittle_bits.proofs.Sizes.{size_emptied}
use Rattle.bittle_bits.proofs.integer.AnyBitsMut.clear_bits.Goals as goal

pub returns-clause-count : goal.returns-clause-count
returns-clause-count g c = rw (g.met.W.Integer.is_word.big_is_pattern c.clear_bits.new.word)
    (size_emptied _ _ c.clear_bits.ensures)
