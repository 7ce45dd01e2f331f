use Rattle.std.proofs.Common.{ap, ◌∙◌}
use Rattle.bittle_bits.specs.Walk.{ones_or_zeros}
use Rattle.bittle_bits.proofs.OnesOrZeros.{ones_or_zeros-word_of}
use Rattle.bittle_bits.proofs.Words.{word_ends}
use Rattle.bittle_bits.proofs.internal.source.word_of_kind.Goals as goal

pub returns : goal.returns
returns g c =
    let w = g.B.Shape.width in
    let s = g.B.Shape.big c.args.bits.now in
    let ones = g.K.Kind.ONES in
    (rw g.met.B.ReadWords.leaf_width at c.bits_of_kind.ensures)
    ∙ ap (ones_or_zeros ones) c.nth_leaf_word.ensures
    ∙ ones_or_zeros-word_of ones w c.args.k s
    (word_ends w c.args.k s.capacity (g.met.B.ReadWords.whole_words c.args.bits.now)
    c.requires.within)
