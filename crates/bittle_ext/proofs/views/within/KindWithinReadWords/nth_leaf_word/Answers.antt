use Rattle.std.proofs.Common.{◌≡◌, ◌*◌, ◌-◌, min, sym, ap, ◌∙◌, arith}
use Rattle.std.proofs.lemmas.Bool.{eqb-true}
use Rattle.bittle.specs.BitPatterns.{bit_set}
use Rattle.bittle.specs.Orders.{read_in}
use Rattle.bittle.specs.PlainSet.{span_set}
use Rattle.bittle_bits.proofs.Words.{word_ends}
use Rattle.bittle_ext.proofs.ViewFacts.{word_within, word_none, word_inside}
use Rattle.bittle_ext.proofs.views.within.KindWithinReadWords.nth_leaf_word.Goals as goal

pub overflow_add-start : goal.overflow_add-start
overflow_add-start g c =
    let w = g.B.Shape.width in
    let start = ap (λ n. c.args.k * n) c.word_width-width.ensures in
    omega (
      arith,
      start,
      c.word_width-width.ensures,
      c.requires.fits.1,
      word_ends w c.args.k _ (g.met.B.ReadWords.whole_words c.args.self.now.set.now)
          c.requires.within,
    )

pub returns-then-is_zero : goal.returns-then-is_zero
returns-then-is_zero g c =
    let v = c.args.self.now in
    let b = g.met.B.ReadWords in
    word_none g.K.Kind.ONES g.E.Endian.mirrored g.B.Shape.width c.args.k v.from v.to
    (g.B.Shape.big v.set.now) _ b.width_positive (b.whole_words v.set.now)
    c.word_of_kind-word.ensures
    (eqb-true _ 0 (sym c.is_zero.ensures.zero ∙ c.if-is_zero.true))

pub returns-then-start-width : goal.returns-then-start-width
returns-then-start-width g c =
    let v = c.args.self.now in
    let b = g.met.B.ReadWords in
    let wide = c.word_width-width.ensures in
    word_inside g.K.Kind.ONES g.E.Endian.mirrored g.B.Shape.width c.args.k v.from v.to
    (g.B.Shape.big v.set.now) _ b.width_positive (b.whole_words v.set.now)
    c.word_of_kind-word.ensures (rw wide at c.if-self-start.true)
    (rw wide at c.if-start-width.true)

pub returns : goal.returns
returns g c =
    let w = g.B.Shape.width in
    let m = g.E.Endian.mirrored in
    let v = c.args.self.now in
    let k = c.args.k in
    let b = g.met.B.ReadWords in
    let wide : c.word_width-width.result ≡ w = c.word_width-width.ensures in
    let start : k * c.word_width-width.result ≡ k * w = ap (λ n. k * n) wide in
    let low : c.min-low.result ≡ min (v.from - k * w) w = omega
    (arith, c.min-low.ensures, c.saturating_sub.ensures, wide, start) in
    let high : c.min-high.result ≡ min (v.to - k * w) w = omega
    (arith, c.min-high.ensures, c.saturating_sub-2.ensures, wide, start) in
    let span : read_in m w (bit_set w (g.B.LeafWord.Word.pattern c.range.result))
    ≡ span_set w c.min-low.result c.min-high.result = rw b.leaf_width at c.range.ensures in
    word_within g.K.Kind.ONES m w k v.from v.to (g.B.Shape.big v.set.now) _ b.width_positive
    (b.whole_words v.set.now) c.word_of_kind-word.ensures _ _
    (span ∙ (λ i. span_set w (low i) (high i))) (rw b.leaf_width at c.on_words.ensures)
