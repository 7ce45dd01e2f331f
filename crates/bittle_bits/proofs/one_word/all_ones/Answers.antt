use Rattle.std.proofs.Common.{◌∙◌, ◌==◌}
use Rattle.bittle_bits.specs.LawProofs.{one_word}
use Rattle.bittle_bits.proofs.WordSizes.{word_full}
use Rattle.bittle_bits.proofs.Sizes.{size_in_each_order}
use Rattle.bittle_bits.proofs.one_word.all_ones.Goals as goal

pub returns-clause-value : goal.returns-clause-value
returns-clause-value g c = c.is_zero.ensures.zero
    ∙ word_full _ _ _ c.not.ensures.range c.is_zero.ensures.range c.not.ensures.pattern

pub returns-clause-in_each_order : goal.returns-clause-in_each_order
returns-clause-in_each_order g c = size_in_each_order _ _ (λ n. n == g.T.Word.width) _
    g.met.T.Word.width_positive (one_word _) (returns-clause-value g c)
