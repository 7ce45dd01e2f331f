use Rattle.std.proofs.Common.{◌<◌, true, sym, ◌∙◌, arith}
use Rattle.bittle.specs.Values.{set_in}
use Rattle.bittle_tiers.proofs.Summaries.{span_empty, tells_outside}
use Rattle.bittle_tiers.proofs.tiered.TieredBitsMut.assign_range_by_operation.Goals as goal

pub returns-then-from-to-clause-set : goal.returns-then-from-to-clause-set
returns-then-from-to-clause-set g c = span_empty (λ b. g.O.Operation.decide b true)
    (set_in g.B.Shape g.E.Endian c.args.self.now.map) c.args.from c.args.to c.if-from-to.true

pub refresh_range-requires-clause-others : goal.refresh_range-requires-clause-others
refresh_range-requires-clause-others g c =
    let w = g.B.Shape.width in
    let before = c.args.self.now in
    let after = c.assign_range_by_operation.new.self in
    let own = g.met.B.FixedCapacity in
    let some : c.args.from < c.args.to = omega (arith, c.requires.ordered, c.if-from-to.false) in
    rw (c.word_width-width.ensures) (tells_outside g.K.Kind.ONES
    (λ b. g.O.Operation.decide b true) g.E.Endian.mirrored w c.args.from c.args.to
    (g.B.Shape.big before.map) (g.B.Shape.big after) (g.S.Shape.big before.summary)
    g.met.B.ReadWords.width_positive some c.assign_range_by_operation.ensures.set
    (own.one_capacity after ∙ sym (own.one_capacity before.map)) before.tells)
