use Rattle.std.proofs.Common.{◌≡◌, true, false, sym, ◌∙◌, arith}
use Rattle.bittle_ext.proofs.PassedWords.{none_after, passes_all, passes_to_end, passes_further}
use Rattle.bittle_ext.proofs.views.by_words.passed.Goals as goal

pub returns-then-FRONT : goal.returns-then-FRONT
returns-then-FRONT g c =
    let law = g.met.B.ReadWords in
    let front : g.N.End.FRONT ≡ true = sym c.FRONT.ensures ∙ c.if-FRONT.true in
    let none = none_after g.B.Shape.width c.capacity.result c.args.low c.args.high c.min-last.result
    (g.B.Shape.big c.args.bits.now) law.width_positive (law.whole_words c.args.bits.now)
    (law.none_past c.args.bits.now) (c.capacity.ensures.value c.requires.fits)
    (rw c.word_width.ensures at c.min-last.ensures) c.if-last-low.true in
    rw front (passes_all true g.B.Shape.width c.args.low c.args.high (g.B.Shape.big c.args.bits.now)
    c.requires.ordered none)

pub returns-else-FRONT : goal.returns-else-FRONT
returns-else-FRONT g c =
    let law = g.met.B.ReadWords in
    let back = sym c.FRONT.ensures ∙ c.if-FRONT.false in
    let none = none_after g.B.Shape.width c.capacity.result c.args.low c.args.high c.min-last.result
    (g.B.Shape.big c.args.bits.now) law.width_positive (law.whole_words c.args.bits.now)
    (law.none_past c.args.bits.now) (c.capacity.ensures.value c.requires.fits)
    (rw c.word_width.ensures at c.min-last.ensures) c.if-last-low.true in
    rw back (passes_all false g.B.Shape.width c.args.low c.args.high (g.B.Shape.big c.args.bits.now)
    c.requires.ordered none)

pub returns-then-end-last : goal.returns-then-end-last
returns-then-end-last g c =
    let law = g.met.B.ReadWords in
    let front : g.N.End.FRONT ≡ true = sym c.FRONT-2.ensures ∙ c.if-FRONT-2.true in
    let none = none_after g.B.Shape.width c.capacity.result c.min-last.result c.args.high
    c.min-last.result (g.B.Shape.big c.args.bits.now) law.width_positive
    (law.whole_words c.args.bits.now) (law.none_past c.args.bits.now)
    (c.capacity.ensures.value c.requires.fits) (rw c.word_width.ensures at c.min-last.ensures)
    (omega arith) in
    rw front (passes_to_end g.B.Shape.width c.args.low c.min-last.result c.args.high
    (g.B.Shape.big c.args.bits.now) (omega (arith, c.min-last.ensures)) none
    (rw (front, c.if-end-last.true) at c.pass_over-end.ensures))

pub returns-else-FRONT-2 : goal.returns-else-FRONT-2
returns-else-FRONT-2 g c =
    let law = g.met.B.ReadWords in
    let none = none_after g.B.Shape.width c.capacity.result c.min-last.result c.args.high
    c.min-last.result (g.B.Shape.big c.args.bits.now) law.width_positive
    (law.whole_words c.args.bits.now) (law.none_past c.args.bits.now)
    (c.capacity.ensures.value c.requires.fits) (rw c.word_width.ensures at c.min-last.ensures)
    (omega arith) in
    passes_further g.N.End.FRONT g.B.Shape.width c.args.low c.min-last.result c.args.high _
    (g.B.Shape.big c.args.bits.now) (omega (arith, c.min-last.ensures)) none c.pass_over-end.ensures
