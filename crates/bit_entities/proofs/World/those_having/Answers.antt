use Rattle.std.proofs.Common.{length, refl, sym, ap, ◌∙◌}
use Rattle.std.proofs.lemmas.Option.{slice_get_read, slice_get_past}
use Rattle.bittle.specs.PlainSet.{PlainSet}
use Rattle.bittle.specs.Values.{set_in}
use Rattle.bit_entities.specs.Entities.{World, world_of, is_in}
use Rattle.bit_entities.proofs.Matches.{kept_by_mask, kept_by_none}
use Rattle.bit_entities.proofs.World.those_having.Goals as goal

pub returns-in-Some : goal.returns-in-Some
returns-in-Some g c ends =
    let masks = c.args.self.now.components in
    let w : World = world_of g.row.N (set_in g.B.Shape g.B.Order.Endian) c.args.self.now.alive
    masks in
    let s : PlainSet = set_in g.B.Shape g.B.Order.Endian c.args.mask in
    let t : PlainSet = set_in g.B.Shape g.B.Order.Endian c.in-Some.those.now in
    let capacity = g.met.B.FixedCapacity.one_capacity c.args.mask in
    let other = g.met.B.FixedCapacity.one_capacity c.in-Some.those.now in
    let found = c.in-Some.ensures.lookup in
    c.conjunction.ensures.in_own_order
    ∙ kept_by_mask w s t c.args.component (capacity ∙ sym other) ends
    (λ k. ap (λ o. is_in (set_in g.B.Shape g.B.Order.Endian) o k)
    (sym (slice_get_read masks (length masks) c.args.component c.in-Some.those.now refl found.3.0
    found.1)))

pub returns-in-None : goal.returns-in-None
returns-in-None g c ends =
    let masks = c.args.self.now.components in
    let w : World = world_of g.row.N (set_in g.B.Shape g.B.Order.Endian) c.args.self.now.alive
    masks in
    let s : PlainSet = set_in g.B.Shape g.B.Order.Endian c.args.mask in
    c.zeros.ensures.in_own_order
    ∙ kept_by_none w s c.args.component _ (sym (g.met.B.FixedCapacity.one_capacity c.args.mask))
    (λ k. ap (λ o. is_in (set_in g.B.Shape g.B.Order.Endian) o k)
    (slice_get_past masks c.args.component c.in-None.ensures.lookup.3))
