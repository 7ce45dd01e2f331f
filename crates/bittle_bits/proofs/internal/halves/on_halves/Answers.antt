use Rattle.bittle_bits.proofs.Halves.{halves_combined}
use Rattle.bittle_bits.proofs.internal.halves.on_halves.Goals as goal

pub returns : goal.returns
returns g c = halves_combined g.O.Operation.decide 64 _ _ _ _ _ _ _ _ _ _ c.requires
    c.halves-low.ensures.range.0 c.halves-other_low.ensures.range.0 c.joined.ensures.range
    c.halves-low.ensures.pattern c.halves-other_low.ensures.pattern c.joined.ensures.pattern
    c.on_words-low.ensures c.on_words.ensures
