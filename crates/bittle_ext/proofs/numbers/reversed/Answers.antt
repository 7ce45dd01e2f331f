use Rattle.bittle_ext.proofs.ReversedBits.{reversed_round}
use Rattle.bittle_ext.proofs.numbers.reversed.Goals as goal

pub returns : goal.returns
returns c i h =
    reversed_round _ _ _ _ _ _ _ _ c.swapped-pairs.ensures c.swapped-fours.ensures
    c.swapped-bytes.ensures c.swapped-of_16.ensures c.swapped-of_32.ensures c.swapped-of_64.ensures
    c.swapped.ensures i h
