use Rattle.std.proofs.Common.{◌≡◌, ◌*◌, ◌/◌, ◌≤◌, true, false, sym, ap, ◌∙◌, arith}
use Rattle.std.proofs.lemmas.Grind.{div_ceil_times}
use Rattle.std.proofs.Math.Nat.{div-mul-le_self}
use Rattle.bittle.specs.Searches.{PassesOver}
use Rattle.bittle.specs.Values.{set_in}
use Rattle.bittle_ext.specs.RangeMembers.{kind_within}
use Rattle.bittle_ext.specs.Views.{read_back}
use Rattle.bittle_ext.proofs.PassedWords.{passes_from, passes_back, passes_within}
use Rattle.bittle_ext.proofs.ViewFacts.{before_range, after_range, wholly_before, wholly_after}
use Rattle.bittle_ext.proofs.views.within.KindWithinReadWords.pass_over.Goals.{then-low-first}
use Rattle.bittle_ext.proofs.views.within.KindWithinReadWords.pass_over.Goals.{else-low-first+then-low-end}
use Rattle.bittle_ext.proofs.views.within.KindWithinReadWords.pass_over.Goals.{else-low-first+else-low-end}
use Rattle.bittle_ext.proofs.views.within.KindWithinReadWords.pass_over.Goals.{then-end-high}
use Rattle.bittle_ext.proofs.views.within.KindWithinReadWords.pass_over.Goals.{else-end-high+then-first-high}
use Rattle.bittle_ext.proofs.views.within.KindWithinReadWords.pass_over.Goals.{else-end-high+else-first-high}
use Rattle.bittle_ext.proofs.views.within.KindWithinReadWords.pass_over.Goals as goal

pub returns-after-low-first : goal.returns-after-low-first
returns-after-low-first g c =
    let v = c.args.self.now in
    let law = g.met.B.ReadWords in
    let w = g.B.Shape.width in
    let m = g.E.Endian.mirrored in
    let kind = g.K.Kind.ONES in
    let at = c.if-low-first.at in
    let first = ap (λ u. v.from / u) c.word_width-width.ensures in
    let front : g.N.End.FRONT ≡ true = sym c.FRONT-2.ensures ∙ c.if-FRONT-2.true in
    let ones : g.L.Kind.ONES ≡ true = sym c.ONES.ensures ∙ c.if-not-ONES.false in
    let view = read_back m w (kind_within kind (set_in g.B.Shape g.E.Endian v.set.now)
    v.from v.to) in
    let before = before_range kind m w v.from v.to c.args.low c.args.high (v.from / w) at _
    law.width_positive c.requires.ordered (div-mul-le_self v.from w) in
    let start : PassesOver true w view c.args.low c.args.high at = elim c.if-low-first.branch [
      | then-low-first b ↦
          before (omega (arith, first, b.at-is, b.min-at.ensures, b.if-low-first.true))
      | else-low-first+then-low-end b ↦
          before (omega (arith, first, b.at-is, b.if-low-first.false, c.requires.ordered))
      | else-low-first+else-low-end b ↦
          wholly_after kind m w v.from v.to c.args.low c.args.high c.div_ceil-end.result at _
          law.width_positive c.requires.ordered
          (rw (c.div_ceil-end.ensures, c.word_width-width.ensures)
          (div_ceil_times v.to w law.width_positive).0) b.if-low-end.false b.at-is
    ] in
    rw (front, ones) (passes_from w c.args.low c.args.high at c.pass_over.result view start
    (passes_within true kind m w at c.args.high c.pass_over.result v.from v.to
    (g.B.Shape.big v.set.now) law.width_positive (law.whole_words v.set.now)
    (rw front at c.pass_over.ensures)))

pub returns-after-end-high : goal.returns-after-end-high
returns-after-end-high g c =
    let v = c.args.self.now in
    let law = g.met.B.ReadWords in
    let w = g.B.Shape.width in
    let m = g.E.Endian.mirrored in
    let kind = g.K.Kind.ONES in
    let at = c.if-end-high.at in
    let first = ap (λ u. v.from / u) c.word_width-width.ensures in
    let back : g.N.End.FRONT ≡ false = sym c.FRONT-2.ensures ∙ c.if-FRONT-2.false in
    let ones : g.L.Kind.ONES ≡ true = sym c.ONES.ensures ∙ c.if-not-ONES.false in
    let view = read_back m w (kind_within kind (set_in g.B.Shape g.E.Endian v.set.now)
    v.from v.to) in
    let after = after_range kind m w v.from v.to c.args.low c.args.high c.div_ceil-end.result at _
    law.width_positive c.requires.ordered
    (rw (c.div_ceil-end.ensures, c.word_width-width.ensures)
    (div_ceil_times v.to w law.width_positive).0) in
    let end : PassesOver false w view c.args.low c.args.high at = elim c.if-end-high.branch [
      | then-end-high b ↦ after (omega (arith, b.at-is, b.max-at.ensures, b.if-end-high.true))
      | else-end-high+then-first-high b ↦
          after (omega (arith, b.at-is, b.if-end-high.false, c.requires.ordered))
      | else-end-high+else-first-high b ↦
          wholly_before kind m w v.from v.to c.args.low c.args.high (v.from / w) at _
          law.width_positive c.requires.ordered (div-mul-le_self v.from w)
          (omega (arith, first, b.if-first-high.false)) b.at-is
    ] in
    rw (back, ones) (passes_back w c.args.low c.args.high at
    c.pass_over-else-FRONT-2.result view end
    (passes_within false kind m w c.args.low at c.pass_over-else-FRONT-2.result v.from v.to
    (g.B.Shape.big v.set.now) law.width_positive (law.whole_words v.set.now)
    (rw back at c.pass_over-else-FRONT-2.ensures)))
