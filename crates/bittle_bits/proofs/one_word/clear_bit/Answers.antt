use Rattle.bittle_bits.proofs.WordCalls.{word_cleared}
use Rattle.bittle_bits.proofs.one_word.clear_bit.Goals as goal

pub returns : goal.returns
returns g c = rw c.and.ensures (word_cleared _ _ _ _ _ g.met.T.Word.width_positive c.mask.ensures
    _ c.not.ensures.range c.not.ensures.pattern)
