use Rattle.std.proofs.Common.{◌≡◌, ◌/◌}
use Rattle.bittle_bits.proofs.RowWords.{some_words, word_goes, words_each}
use Rattle.bittle_bits.proofs.internal.row.locate_word.Given.{Over}
use Rattle.bittle_bits.proofs.internal.row.locate_word.Goals.{After-word_width}
use Rattle.bittle_bits.proofs.internal.row.locate_word.Goals as goal

-- how many words an element has
each : (g : Over) (c : After-word_width g) →
    c.fixed_capacity.result / c.word_width.result ≡ g.met.T.FixedCapacity.type_whole_words.0
each g c = words_each _ _ _ _ _ g.met.T.ReadWords.width_positive
    (c.fixed_capacity.ensures.value
    (c.requires.fits.0, g.met.T.FixedCapacity.type_fits c.requires.fits.0))
    c.word_width.ensures g.met.T.FixedCapacity.type_whole_words.1

pub nonzero_div-result : goal.nonzero_div-result
nonzero_div-result g c = rw (each g (goal.at.nonzero_div-result g c).After-word_width)
    (some_words _ _ _ _ _ g.met.T.FixedCapacity.type_whole_words.1 c.requires.within)

pub nonzero_rem-result : goal.nonzero_rem-result
nonzero_rem-result g c = rw (each g (goal.at.nonzero_rem-result g c).After-word_width)
    (some_words _ _ _ _ _ g.met.T.FixedCapacity.type_whole_words.1 c.requires.within)

pub returns : goal.returns
returns g c =
    let w = g.met.T.FixedCapacity.type_whole_words in
    rw (each g (goal.at.returns g c).After-word_width)
    (word_goes _ _ _ w.0 _ g.met.T.ReadWords.width_positive w.1 c.requires.within)
