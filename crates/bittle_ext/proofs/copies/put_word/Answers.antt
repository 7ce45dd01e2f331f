use Rattle.std.proofs.Common.{◌/◌, ◌%◌}
use Rattle.std.proofs.lemmas.Nat.{div-add-mod'}
use Rattle.bittle.specs.BitPatterns.{bit_set}
use Rattle.bittle.specs.Orders.{read_in}
use Rattle.bittle_ext.proofs.CopiedRanges.{word_copied}
use Rattle.bittle_ext.proofs.copies.put_word.Goals as goal

pub returns-clause-set : goal.returns-clause-set
returns-clause-set g c =
    let b = g.met.A.ReadWords in
    let w = g.A.Shape.width in
    let first = c.args.first in
    let old = c.args.set.now in
    let new = c.set_nth_leaf_word.new.self in
    let wide = c.width_of_words-width.ensures.width in
    let word = read_in g.E.Endian.mirrored w (bit_set w (g.A.LeafWord.Word.pattern c.args.word)) in
    word_copied g.E.Endian.mirrored w (first / w) first (first % w) c.args.count _ _
    (g.A.Shape.big old) (g.A.Shape.big new) word b.width_positive
    (div-add-mod' first w) c.requires.word
    (rw wide at c.nth_leaf_word-old.ensures) (rw (b.leaf_width, wide) at c.with_first_bits.ensures)
    (rw wide at c.set_nth_leaf_word.ensures.set) (b.whole_words old) (b.none_past old)
    (b.none_past new)
