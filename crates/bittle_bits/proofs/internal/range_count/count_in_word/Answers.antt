use Rattle.bittle_bits.proofs.MembersBelow.{below_in_word}
use Rattle.bittle_bits.proofs.WordSizes.{size-bit_set}
use Rattle.bittle_bits.proofs.internal.range_count.count_in_word.Goals as goal

pub returns : goal.returns
returns g c =
    let w = g.B.Shape.width in
    let leaf = g.met.B.ReadWords.leaf_width in
    let r = g.B.LeafWord.Word.pattern c.and.result in
    below_in_word g.E.Endian.mirrored w _ g.met.B.ReadWords.width_positive c.args.k _ _
    r _ c.args.from
    c.args.to c.nth_leaf_word-word.ensures (rw leaf at c.range.ensures) c.and.ensures
    (size-bit_set w r _ c.count_ones.ensures.count (rw leaf at c.count_ones.ensures.range))
    c.requires.ordered (rw leaf at c.requires.within)
