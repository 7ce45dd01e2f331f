use Rattle.std.proofs.Common.{length, refl, sym, ap, ◌∙◌, arith}
use Rattle.std.proofs.lemmas.Option.{slice_get_read, slice_get_past}
use Rattle.bittle.specs.Values.{set_in}
use Rattle.bittle.proofs.CallerSets.{contains_within}
use Rattle.bit_entities.specs.Entities.{is_in}
use Rattle.bit_entities.proofs.World.has.Goals as goal

pub returns-then-entity-bits-clause-value : goal.returns-then-entity-bits-clause-value
returns-then-entity-bits-clause-value g c =
    let masks = c.args.self.now.components in
    let found = c.in-Some.ensures.lookup in
    let capacity = g.met.B.FixedCapacity.one_capacity c.in-Some.mask.now in
    let bits = c.bits.ensures.value c.args.self.now.fits in
    c.test_bit.ensures.value
    ∙ contains_within _ c.args.entity (omega (arith, capacity, bits, c.if-entity-bits.true))
    ∙ ap (λ o. is_in (set_in g.B.Shape g.B.Order.Endian) o c.args.entity)
    (sym (slice_get_read masks (length masks) c.args.component c.in-Some.mask.now refl found.3.0
    found.1))

pub returns-in-None-clause-value : goal.returns-in-None-clause-value
returns-in-None-clause-value g c =
    ap (λ o. is_in (set_in g.B.Shape g.B.Order.Endian) o c.args.entity)
    (sym (slice_get_past c.args.self.now.components c.args.component c.in-None.ensures.lookup.3))

pub returns-then-entity-bits-clause-lives : goal.returns-then-entity-bits-clause-lives
returns-then-entity-bits-clause-lives g c has =
    c.args.self.now.sound.dead_have_nothing c.args.entity c.args.component
    (sym (returns-then-entity-bits-clause-value g c) ∙ has)
