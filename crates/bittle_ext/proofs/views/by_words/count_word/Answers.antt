use Rattle.bittle_bits.proofs.MembersBelow.{below_next_word}
use Rattle.bittle_bits.proofs.WordSizes.{size-bit_set}
use Rattle.bittle_ext.proofs.views.by_words.count_word.Goals as goal

pub returns : goal.returns
returns g c =
    let w = g.B.Shape.width in
    let leaf = g.met.B.ReadWords.leaf_width in
    let d = g.B.LeafWord.Word.pattern c.nth_leaf_word.result in
    below_next_word g.E.Endian.mirrored w _ g.met.B.ReadWords.width_positive c.args.k d _
    c.nth_leaf_word.ensures
    (size-bit_set w d _ c.count_ones.ensures.count (rw leaf at c.count_ones.ensures.range))
