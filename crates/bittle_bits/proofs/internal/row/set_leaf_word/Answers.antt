use Rattle.std.proofs.Common.{refl, ap, length, length-set, get_or}
use Rattle.bittle_bits.proofs.RowWords.{row_word_replaced}
use Rattle.bittle_bits.proofs.internal.row.set_leaf_word.Goals as goal

pub set_nth_leaf_word-requires-clause-within : goal.set_nth_leaf_word-requires-clause-within
set_nth_leaf_word-requires-clause-within g c = rw (g.met.T.FixedCapacity.one_capacity _)
    c.locate_word-element.ensures.within

pub returns : goal.returns
returns g c =
    let xs = c.args.elements.now in
    let q = c.locate_word-element.result.0 in
    let x = get_or xs q c.index-elements-element.result in
    rw length-set (row_word_replaced (length xs) g.T.Shape.type_capacity g.T.Shape.width
    c.args.k q c.locate_word-element.result.1 g.T.Shape.big xs x c.set_nth_leaf_word.new.self
    g.met.T.ReadWords.width_positive g.met.T.FixedCapacity.type_whole_words c.requires.within
    c.locate_word-element.ensures refl
    (ap (λ (d : g.row.T.Denot). get_or xs q d) c.index-elements-element.is) _
    c.set_nth_leaf_word.ensures.set (g.met.T.FixedCapacity.one_capacity x))
