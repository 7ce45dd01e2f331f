use Rattle.std.proofs.Common.{◌∙◌}
use Rattle.bittle.specs.Values.{set_in}
use Rattle.bittle_ext.proofs.NumberBits.{number_word}
use Rattle.bittle_ext.proofs.other_words.unlike_word.Goals as goal

pub returns : goal.returns
returns g c =
    let bits = rw c.width_of-width.ensures.width at c.number_from.ensures.bits in
    c.word_of.ensures
    ∙ number_word g.W.Word.width c.args.k _ (set_in g.B.Shape g.F.Endian c.args.set.now) bits
