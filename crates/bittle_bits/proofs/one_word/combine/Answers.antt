use Rattle.bittle_bits.proofs.WordOperations.{word_combined}
use Rattle.bittle_bits.proofs.one_word.combine.Goals as goal

pub returns-then-width-eq128 : goal.returns-then-width-eq128
returns-then-width-eq128 g c mirrored = word_combined g.O.Operation.decide _ _ _ _ mirrored
    g.met.T.Word.width_positive c.on_halves.ensures

pub returns-else-width-eq128 : goal.returns-else-width-eq128
returns-else-width-eq128 g c mirrored = word_combined g.O.Operation.decide _ _ _ _ mirrored
    g.met.T.Word.width_positive c.on_words.ensures
