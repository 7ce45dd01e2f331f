use Rattle.std.proofs.Common.{◌≡◌, true, false, sym, ◌∙◌, arith}
use Rattle.bittle_ext.proofs.EdgeWords.{passes_front, passes_back}
use Rattle.bittle_ext.proofs.views.edges.EdgesReadWords.pass_over.Goals as goal

pub returns-then-FRONT-2 : goal.returns-then-FRONT-2
returns-then-FRONT-2 g c =
    let law = g.met.B.ReadWords in
    let set = c.args.self.now.set.now in
    let front : g.N.End.FRONT ≡ true = sym c.FRONT-2.ensures ∙ c.if-FRONT-2.true in
    let ones : g.L.Kind.ONES ≡ true = sym c.ONES.ensures ∙ c.if-not-ONES.false in
    rw (front, ones) (passes_front g.K.Kind.ONES g.E.Endian.mirrored g.B.Shape.width
    (g.B.Shape.big set) law.width_positive (law.whole_words set) c.args.low c.args.high
    c.saturating_sub-before.result c.pass_over.result c.max.result c.requires.ordered
    (omega (arith, c.saturating_sub-before.ensures)) (rw front at c.pass_over.ensures)
    (omega (arith, c.max.ensures)))

pub returns-then-end-high : goal.returns-then-end-high
returns-then-end-high g c =
    let law = g.met.B.ReadWords in
    let set = c.args.self.now.set.now in
    let back : g.N.End.FRONT ≡ false = sym c.FRONT-2.ensures ∙ c.if-FRONT-2.false in
    let ones : g.L.Kind.ONES ≡ true = sym c.ONES.ensures ∙ c.if-not-ONES.false in
    rw (back, ones) (passes_back g.K.Kind.ONES g.E.Endian.mirrored g.B.Shape.width
    (g.B.Shape.big set) law.width_positive (law.whole_words set) c.args.low c.args.high
    c.pass_over-end.result (rw back at c.pass_over-end.ensures) c.if-end-high.true)
