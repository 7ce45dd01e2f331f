use Rattle.std.proofs.Common.{◌≡◌, ◌⊎◌, ◌-◌, ◌<◌, inl, inr, arith}
use Rattle.bittle.specs.BitPatterns.{bit_set}
use Rattle.bittle.specs.Walk.{ones_or_zeros}
use Rattle.bittle.specs.Words.{word_of}
use Rattle.bittle_ext.proofs.EdgeWords.{wide, word_of_edges}
use Rattle.bittle_ext.proofs.views.edges.EdgesReadWords.nth_leaf_word.Goals.{then-k-eq0, else-k-eq0}
use Rattle.bittle_ext.proofs.views.edges.EdgesReadWords.nth_leaf_word.Goals as goal

pub window_up_to-moved-requires : goal.window_up_to-moved-requires
window_up_to-moved-requires g c = wide g.B.LeafWord.Word.width g.met.B.LeafWord.Word.whole_bytes

pub returns : goal.returns
returns g c =
    let b = g.met.B.ReadWords in
    let w = g.B.Shape.width in
    let k = c.args.k in
    let big = g.B.Shape.big c.args.self.now.set.now in
    let ones = g.K.Kind.ONES in
    let e = g.B.LeafWord.Word.pattern c.if-k-eq0.before in
    let before : ((k ≡ 0) × (e ≡ 0))
    ⊎ ((0 < k) × (bit_set w e ≡ word_of w (ones_or_zeros ones big) (k - 1))) =
    elim c.if-k-eq0.branch [
      | then-k-eq0 h ↦ inl (h.if-k-eq0.true, rw h.before-is h.zero-before.ensures)
      | else-k-eq0 h ↦ inr (
        omega (arith, h.if-k-eq0.false),
        rw h.before-is
            h.word_of_kind-before.ensures,
      )
    ] in
    word_of_edges ones g.E.Endian.mirrored w big b.width_positive
    (b.whole_words c.args.self.now.set.now)
    k _ _ _ _ c.requires.within c.word_of_kind-word.ensures before
    (rw b.leaf_width at c.window_up_to-moved.ensures) (rw b.leaf_width at c.on_words.ensures)
