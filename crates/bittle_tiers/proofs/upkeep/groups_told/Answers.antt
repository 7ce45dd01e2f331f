use Rattle.std.proofs.Common.{◌≡◌, ◌-◌, ◌*◌, ◌^◌, refl, sym, ap, ◌∙◌, arith}
use Rattle.bittle.specs.Walk.{ones_or_zeros}
use Rattle.bittle_bits.proofs.WordGroups.{none_told}
use Rattle.bittle_tiers.proofs.Summaries.{tells_by_summary, tells_by_word, tells_past}
use Rattle.bittle_tiers.proofs.upkeep.groups_told.Goals as goal

pub returns-then-word_width-ne64 : goal.returns-then-word_width-ne64
returns-then-word_width-ne64 g c = none_told (64 ^ c.args.level) g.B.Shape.width c.args.n _
    (ones_or_zeros g.K.Kind.ONES (g.B.Shape.big c.args.map.now)) refl

pub returns-then-level-ne0 : goal.returns-then-level-ne0
returns-then-level-ne0 g c =
    let law = g.met.B.ReadWords in
    tells_by_summary g.K.Kind.ONES g.B.Shape.width (g.B.Shape.big c.args.map.now)
    (g.S.Shape.big c.args.summary.now) law.width_positive (law.whole_words c.args.map.now)
    c.requires.tells (law.none_past c.args.map.now) g.S.Shape.width c.args.level (c.args.level - 1)
    c.args.n c.groups_told.result (sym c.word_width.ensures ∙ c.if-word_width-ne64.false)
    (omega (arith, c.if-level-ne0.true)) c.groups_told.ensures

pub returns-then-fixed_capacity-n : goal.returns-then-fixed_capacity-n
returns-then-fixed_capacity-n g c =
    let law = g.met.B.ReadWords in
    let own = g.met.S.FixedCapacity in
    let wide : g.S.Shape.width ≡ 64 = sym c.word_width.ensures ∙ c.if-word_width-ne64.false in
    let is = c.fixed_capacity.ensures.value (c.requires.fits, own.type_fits c.requires.fits) in
    let whole = own.type_whole_words in
    tells_past g.K.Kind.ONES g.B.Shape.width (g.B.Shape.big c.args.map.now)
    (g.S.Shape.big c.args.summary.now) law.width_positive (law.whole_words c.args.map.now)
    c.requires.tells (law.none_past c.args.map.now) c.args.level c.args.n g.S.Shape.type_capacity
    c.if-level-ne0.false
    (omega (arith, g.met.B.FixedCapacity.one_capacity c.args.map.now, c.requires.reaches))
    (whole.0, whole.1 ∙ ap (λ v. whole.0 * v) wide) (rw is at c.if-fixed_capacity-n.true) _

pub returns : goal.returns
returns g c =
    let law = g.met.B.ReadWords in
    let wide : g.S.Shape.width ≡ 64 = sym c.word_width.ensures ∙ c.if-word_width-ne64.false in
    tells_by_word g.K.Kind.ONES g.B.Shape.width (g.B.Shape.big c.args.map.now)
    (g.S.Shape.big c.args.summary.now) law.width_positive (law.whole_words c.args.map.now)
    c.requires.tells (law.none_past c.args.map.now) c.args.level c.args.n c.to_bits.result
    c.if-level-ne0.false (rw (wide, sym c.to_bits.ensures.pattern) at c.nth_leaf_word.ensures)
