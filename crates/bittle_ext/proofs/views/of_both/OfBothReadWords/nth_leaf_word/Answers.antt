use Rattle.bittle.specs.Values.{set_in}
use Rattle.bittle_ext.specs.Combined.{decided_set}
use Rattle.bittle_ext.proofs.CombinedWords.{decided_in_order, word_in_order}
use Rattle.bittle_ext.proofs.ViewFacts.{word_read_back}
use Rattle.bittle_ext.proofs.views.of_both.OfBothReadWords.nth_leaf_word.Goals as goal

pub returns-then-keeps_to_first : goal.returns-then-keeps_to_first
returns-then-keeps_to_first g c =
    let v = c.args.self.now in
    let k = c.args.k in
    let m = g.E.Endian.mirrored in
    let w = g.A.Shape.width in
    let f = g.O.Operation.decide in
    let s = set_in g.A.Shape g.E.Endian v.left.now in
    let t = set_in g.B.Shape g.F.Endian v.right.now in
    let a = g.met.A.ReadWords in
    word_read_back m w k v.end _ (decided_set f s t) a.width_positive
    (decided_in_order f m w k s t _ _ _ a.width_positive (rw a.leaf_width at c.on_words.ensures)
    (word_in_order m w k (g.A.Shape.big v.left.now) _ a.width_positive c.nth_leaf_word.ensures)
    c.other_word-theirs.ensures)

pub returns : goal.returns
returns g c =
    let v = c.args.self.now in
    let k = c.args.k in
    let m = g.E.Endian.mirrored in
    let w = g.A.Shape.width in
    let f = g.O.Operation.decide in
    let s = set_in g.A.Shape g.E.Endian v.left.now in
    let t = set_in g.B.Shape g.F.Endian v.right.now in
    let a = g.met.A.ReadWords in
    word_read_back m w k v.end _ (decided_set f s t) a.width_positive
    (decided_in_order f m w k s t _ _ _ a.width_positive (rw a.leaf_width at c.on_words-2.ensures)
    (word_in_order m w k (g.A.Shape.big v.left.now) _ a.width_positive c.word_or_empty.ensures)
    c.other_word-theirs.ensures)
