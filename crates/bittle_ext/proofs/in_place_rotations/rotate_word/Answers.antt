use Rattle.bittle_ext.proofs.RotatedWords.{word_rotated}
use Rattle.bittle_ext.proofs.in_place_rotations.rotate_word.Goals as goal

pub returns-clause-set : goal.returns-clause-set
returns-clause-set g c =
    let b = g.met.B.ReadWords in
    let old = c.args.set.now in
    let new = c.set_nth_leaf_word.new.self in
    word_rotated g.E.Endian.mirrored g.B.Shape.width c.args.by _ _ (g.B.Shape.big old)
    (g.B.Shape.big new) b.width_positive c.requires.one c.requires.part (b.none_past old)
    (b.none_past new) c.nth_leaf_word-word.ensures (rw b.leaf_width at c.window.ensures)
    c.set_nth_leaf_word.ensures.set
