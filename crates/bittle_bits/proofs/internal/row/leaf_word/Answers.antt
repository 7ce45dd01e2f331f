use Rattle.std.proofs.Common.{refl, ◌∙◌, length}
use Rattle.bittle_bits.proofs.RowWords.{row_word}
use Rattle.bittle_bits.proofs.internal.row.leaf_word.Goals as goal

pub nth_leaf_word-requires-clause-within : goal.nth_leaf_word-requires-clause-within
nth_leaf_word-requires-clause-within g c = rw (g.met.T.FixedCapacity.one_capacity _)
    c.locate_word-element.ensures.within

pub returns : goal.returns
returns g c = c.nth_leaf_word.ensures ∙ row_word
    (length c.args.elements.now) g.T.Shape.type_capacity g.T.Shape.width c.args.k _ _
    g.T.Shape.big c.args.elements.now g.met.T.ReadWords.width_positive
    g.met.T.FixedCapacity.type_whole_words
    c.requires.within c.locate_word-element.ensures c.index-elements-element.result refl
    c.index-elements-element.is
