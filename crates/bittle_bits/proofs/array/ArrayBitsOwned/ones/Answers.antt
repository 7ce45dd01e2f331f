use Rattle.bittle_bits.specs.RowLawProofs.{words_of}
use Rattle.bittle_bits.proofs.PlainSets.{full_set_in_each_order}
use Rattle.bittle_bits.proofs.RowSets.{row_set-full}
use Rattle.bittle_bits.proofs.Sizes.{size_filled}
use Rattle.bittle_bits.proofs.array.ArrayBitsOwned.ones.Goals as goal

pub returns-clause-value : goal.returns-clause-value
returns-clause-value g c = row_set-full _ _ g.T.Shape.big _ c.ones.ensures.value

pub returns-clause-in_each_order : goal.returns-clause-in_each_order
returns-clause-in_each_order g c = full_set_in_each_order _ _ _ g.met.T.ReadWords.width_positive
    (words_of _ _ _ g.met.T.FixedCapacity.type_whole_words) (returns-clause-value g c)

pub returns-clause-in_own_order : goal.returns-clause-in_own_order
returns-clause-in_own_order g c = returns-clause-value g c

pub returns-clause-count : goal.returns-clause-count
returns-clause-count g c = size_filled _ _ (returns-clause-value g c)
