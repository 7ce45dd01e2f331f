use Rattle.bittle_ext.proofs.RotatedSets.{window_from, this_within, next_within}
use Rattle.bittle_ext.proofs.rotations.word_from.Goals as goal

pub nth_leaf_word-requires-clause-within : goal.nth_leaf_word-requires-clause-within
nth_leaf_word-requires-clause-within g c =
    this_within g.B.Shape.width c.args.at c.args.next _ g.met.B.ReadWords.width_positive
    c.requires.next

pub nth_leaf_word-requires-2-clause-within : goal.nth_leaf_word-requires-2-clause-within
nth_leaf_word-requires-2-clause-within g c =
    next_within g.B.Shape.width c.args.at c.args.next _ g.met.B.ReadWords.width_positive
    c.requires.next

pub returns : goal.returns
returns g c =
    let b = g.met.B.ReadWords in
    window_from g.E.Endian.mirrored g.B.Shape.width c.args.at c.args.from _ _ _
    (g.B.Shape.big c.args.set.now) b.width_positive (b.whole_words c.args.set.now) c.requires.within
    c.args.next c.requires.next c.nth_leaf_word.ensures c.nth_leaf_word-2.ensures
    (rw b.leaf_width at c.window.ensures)
