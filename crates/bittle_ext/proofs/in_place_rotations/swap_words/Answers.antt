use Rattle.bittle_ext.proofs.RotatedWords.{words_exchanged}
use Rattle.bittle_ext.proofs.in_place_rotations.swap_words.Goals as goal

pub returns-clause-words : goal.returns-clause-words
returns-clause-words g c =
    words_exchanged g.E.Endian.mirrored g.B.Shape.width c.args.i c.args.j _ _ _ _ _
    g.met.B.ReadWords.width_positive c.requires.first c.requires.second
    c.nth_leaf_word-first.ensures c.nth_leaf_word-second.ensures
    c.set_nth_leaf_word.ensures.set c.set_nth_leaf_word-2.ensures.set
