use Rattle.bittle_bits.proofs.Words.{word_replaced}
use Rattle.bittle_bits.proofs.one_word.set_leaf_word.Goals as goal

pub returns : goal.returns
returns g c = word_replaced _ _ _ _ c.requires
