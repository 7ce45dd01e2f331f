use Rattle.bittle_bits.proofs.Sizes.{size_filled}
use Rattle.bittle_bits.proofs.integer.AnyBitsOwned.ones.Goals as goal

pub returns-clause-in_each_order : goal.returns-clause-in_each_order
returns-clause-in_each_order g c m =
    let law = g.met.W.Integer in
    rw (law.is_word.same_width, law.is_word.big_is_pattern c.ones.result, law.is_word.same_capacity)
    (c.ones.ensures.in_each_order m)

pub returns-clause-count : goal.returns-clause-count
returns-clause-count g c =
    let law = g.met.W.Integer in
    rw (law.is_word.big_is_pattern c.ones.result, law.is_word.same_capacity)
    (size_filled _ _ c.ones.ensures.value)
