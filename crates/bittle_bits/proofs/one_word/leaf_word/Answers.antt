use Rattle.bittle_bits.proofs.Words.{word_of-pattern}
use Rattle.bittle_bits.proofs.one_word.leaf_word.Goals as goal

pub returns : goal.returns
returns g c = word_of-pattern g.T.Word.width (g.T.Word.pattern c.args.word) c.args.k c.requires
