use Rattle.std.proofs.Common.{◌≡◌, true, false, sym, ◌∙◌, arith}
use Rattle.bittle_tiers.proofs.Summaries.{reaches, passes_some, passes_none, stops_some, stops_none}
use Rattle.bittle_tiers.proofs.upkeep.pass_over.Goals as goal

pub overflow_cast-low : goal.overflow_cast-low
overflow_cast-low g c =
    let high = reaches _ c.args.high _ _ _ g.met.B.ReadWords.width_positive c.requires.within
    (g.met.B.FixedCapacity.one_capacity c.args.map.now) c.requires.reaches in
    omega (arith, high, c.requires.ordered, g.met.S.FixedCapacity.type_fits c.requires.fits)

pub overflow_cast-high : goal.overflow_cast-high
overflow_cast-high g c =
    let high = reaches _ c.args.high _ _ _ g.met.B.ReadWords.width_positive c.requires.within
    (g.met.B.FixedCapacity.one_capacity c.args.map.now) c.requires.reaches in
    omega (arith, high, g.met.S.FixedCapacity.type_fits c.requires.fits)

pub returns-then-FRONT-clause-passes : goal.returns-then-FRONT-clause-passes
returns-then-FRONT-clause-passes g c =
    let side : g.N.End.FRONT ≡ true = sym c.FRONT.ensures ∙ c.if-FRONT.true in
    rw side (passes_some g.K.Kind.ONES g.B.Shape.width (g.B.Shape.big c.args.map.now)
    (g.S.Shape.big c.args.summary.now) g.met.B.ReadWords.width_positive
    (g.met.B.ReadWords.whole_words _) c.requires.tells true _ _ _
    c.requires.within (rw (side, c.in-Some.is) at c.end_in.ensures))

pub returns-then-FRONT-clause-stops : goal.returns-then-FRONT-clause-stops
returns-then-FRONT-clause-stops g c =
    let side : g.N.End.FRONT ≡ true = sym c.FRONT.ensures ∙ c.if-FRONT.true in
    rw side (stops_some g.K.Kind.ONES g.B.Shape.width (g.B.Shape.big c.args.map.now)
    (g.S.Shape.big c.args.summary.now) g.met.B.ReadWords.width_positive
    (g.met.B.ReadWords.whole_words _) c.requires.tells true _ _ _
    c.requires.within (rw (side, c.in-Some.is) at c.end_in.ensures))

pub returns-else-FRONT-clause-passes : goal.returns-else-FRONT-clause-passes
returns-else-FRONT-clause-passes g c =
    let side : g.N.End.FRONT ≡ false = sym c.FRONT.ensures ∙ c.if-FRONT.false in
    rw side (passes_some g.K.Kind.ONES g.B.Shape.width (g.B.Shape.big c.args.map.now)
    (g.S.Shape.big c.args.summary.now) g.met.B.ReadWords.width_positive
    (g.met.B.ReadWords.whole_words _) c.requires.tells false _ _ _
    c.requires.within (rw (side, c.in-Some.is) at c.end_in.ensures))

pub returns-else-FRONT-clause-stops : goal.returns-else-FRONT-clause-stops
returns-else-FRONT-clause-stops g c =
    let side : g.N.End.FRONT ≡ false = sym c.FRONT.ensures ∙ c.if-FRONT.false in
    rw side (stops_some g.K.Kind.ONES g.B.Shape.width (g.B.Shape.big c.args.map.now)
    (g.S.Shape.big c.args.summary.now) g.met.B.ReadWords.width_positive
    (g.met.B.ReadWords.whole_words _) c.requires.tells false _ _ _
    c.requires.within (rw (side, c.in-Some.is) at c.end_in.ensures))

pub returns-then-FRONT-2-clause-passes : goal.returns-then-FRONT-2-clause-passes
returns-then-FRONT-2-clause-passes g c =
    let side : g.N.End.FRONT ≡ true = sym c.FRONT-in-None.ensures ∙ c.if-FRONT-2.true in
    rw side (passes_none g.K.Kind.ONES g.B.Shape.width (g.B.Shape.big c.args.map.now)
    (g.S.Shape.big c.args.summary.now) g.met.B.ReadWords.width_positive
    (g.met.B.ReadWords.whole_words _) c.requires.tells true _ _
    c.requires.ordered c.requires.within (rw (side, c.in-None.is) at c.end_in.ensures))

pub returns-then-FRONT-2-clause-stops : goal.returns-then-FRONT-2-clause-stops
returns-then-FRONT-2-clause-stops g c =
    let side : g.N.End.FRONT ≡ true = sym c.FRONT-in-None.ensures ∙ c.if-FRONT-2.true in
    rw side (stops_none g.K.Kind.ONES g.B.Shape.width (g.B.Shape.big c.args.map.now)
    (g.S.Shape.big c.args.summary.now) g.met.B.ReadWords.width_positive
    (g.met.B.ReadWords.whole_words _) c.requires.tells true c.args.low c.args.high)

pub returns-else-FRONT-2-clause-passes : goal.returns-else-FRONT-2-clause-passes
returns-else-FRONT-2-clause-passes g c =
    let side : g.N.End.FRONT ≡ false = sym c.FRONT-in-None.ensures ∙ c.if-FRONT-2.false in
    rw side (passes_none g.K.Kind.ONES g.B.Shape.width (g.B.Shape.big c.args.map.now)
    (g.S.Shape.big c.args.summary.now) g.met.B.ReadWords.width_positive
    (g.met.B.ReadWords.whole_words _) c.requires.tells false _ _
    c.requires.ordered c.requires.within (rw (side, c.in-None.is) at c.end_in.ensures))

pub returns-else-FRONT-2-clause-stops : goal.returns-else-FRONT-2-clause-stops
returns-else-FRONT-2-clause-stops g c =
    let side : g.N.End.FRONT ≡ false = sym c.FRONT-in-None.ensures ∙ c.if-FRONT-2.false in
    rw side (stops_none g.K.Kind.ONES g.B.Shape.width (g.B.Shape.big c.args.map.now)
    (g.S.Shape.big c.args.summary.now) g.met.B.ReadWords.width_positive
    (g.met.B.ReadWords.whole_words _) c.requires.tells false c.args.low c.args.high)
