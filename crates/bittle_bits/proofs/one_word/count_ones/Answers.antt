use Rattle.bittle_bits.specs.LawProofs.{one_word}
use Rattle.bittle_bits.proofs.WordSizes.{size-bit_set}
use Rattle.bittle_bits.proofs.Sizes.{size-most, size_in_each_order}
use Rattle.bittle_bits.proofs.one_word.count_ones.Goals as goal

pub returns-clause-value : goal.returns-clause-value
returns-clause-value g c = size-bit_set _ _ _ c.count_ones.ensures.count
    c.count_ones.ensures.range

pub returns-clause-in_each_order : goal.returns-clause-in_each_order
returns-clause-in_each_order g c = size_in_each_order _ _ (λ n. n) _ g.met.T.Word.width_positive
    (one_word _) (returns-clause-value g c)

pub returns-clause-at_most : goal.returns-clause-at_most
returns-clause-at_most g c = size-most _ _ (returns-clause-value g c)
