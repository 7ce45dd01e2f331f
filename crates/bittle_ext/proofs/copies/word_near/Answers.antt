use Rattle.std.proofs.Common.{◌/◌, ◌%◌, refl, arith}
use Rattle.std.proofs.lemmas.Nat.{div-add-mod', mod_below}
use Rattle.bittle_ext.proofs.NumberBits.{near_one, near_two}
use Rattle.bittle_ext.proofs.copies.word_near.Goals as goal

pub returns-then-count-width : goal.returns-then-count-width
returns-then-count-width g c =
    let b = g.met.B.ReadWords in
    let w = g.B.Shape.width in
    let first = c.args.first in
    let wide = c.width_of_words-width.ensures.width in
    near_one g.E.Endian.mirrored w (first / w) (first % w) first c.args.count _ _
    (g.B.Shape.big c.args.set.now) _ b.width_positive (div-add-mod' first w)
    (rw wide at c.nth_leaf_word-word.ensures) (rw (b.leaf_width, wide) at c.window.ensures)
    (omega (arith, rw wide at c.if-count-width.true, mod_below first w b.width_positive))

pub returns : goal.returns
returns g c =
    let b = g.met.B.ReadWords in
    let w = g.B.Shape.width in
    let first = c.args.first in
    let wide = c.width_of_words-width.ensures.width in
    near_two g.E.Endian.mirrored w (first / w) (first % w) first c.args.count _ _
    (g.B.Shape.big c.args.set.now) _ b.width_positive (div-add-mod' first w)
    (rw wide at c.nth_leaf_word-word.ensures) (rw (b.leaf_width, wide) at c.window-2.ensures)
    _ refl (rw wide at c.nth_leaf_word.ensures) (mod_below first w b.width_positive)
    c.requires.within
