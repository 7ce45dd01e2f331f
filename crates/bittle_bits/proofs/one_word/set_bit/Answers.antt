use Rattle.bittle_bits.proofs.WordCalls.{word_set}
use Rattle.bittle_bits.proofs.one_word.set_bit.Goals as goal

pub returns : goal.returns
returns g c = rw c.or.ensures (word_set _ _ _ _ _ g.met.T.Word.width_positive c.mask.ensures)
