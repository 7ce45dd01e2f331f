use Rattle.bittle_bits.proofs.BitSets.{all_digits, full_word}
use Rattle.bittle_bits.proofs.one_word.ones.Goals as goal

pub returns-clause-value : goal.returns-clause-value
returns-clause-value g c = all_digits _ _ _ c.zero.ensures c.not.ensures.range c.not.ensures.pattern

pub returns-clause-in_each_order : goal.returns-clause-in_each_order
returns-clause-in_each_order g c = full_word _ _ g.met.T.Word.width_positive
    (returns-clause-value g c)
