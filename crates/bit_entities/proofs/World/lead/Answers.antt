use Rattle.std.proofs.Common.{length, refl, sym, ap}
use Rattle.std.proofs.lemmas.Option.{slice_get_read, slice_get_past}
use Rattle.bittle.specs.Values.{set_in}
use Rattle.bit_entities.specs.Entities.{World, world_of, is_in}
use Rattle.bit_entities.proofs.Matches.{first_leads, first_is_none}
use Rattle.bit_entities.proofs.World.lead.Goals as goal

pub returns-in_err-mask : goal.returns-in_err-mask
returns-in_err-mask g c =
    let masks = c.args.self.now.components in
    let w : World = world_of g.row.N (set_in g.B.Shape g.B.Order.Endian) c.args.self.now.alive
    masks in
    let first = c.in-Some.ensures.item in
    rw (c.from_residual.ensures) (first_is_none w c.args.required.now c.in-Some.component.now
    first.3.0 (sym first.1)
    (λ k. ap (λ o. is_in (set_in g.B.Shape g.B.Order.Endian) o k)
    (slice_get_past masks c.in-Some.component.now c.in_err-mask.ensures.lookup.3)))

pub returns : goal.returns
returns g c =
    let masks = c.args.self.now.components in
    let w : World = world_of g.row.N (set_in g.B.Shape g.B.Order.Endian) c.args.self.now.alive
    masks in
    let first = c.in-Some.ensures.item in
    let found = c.in_ok-mask.ensures.lookup in
    first_leads w c.args.required.now c.in-Some.component.now _ c.args.self.now.sound first.3.0
    (sym first.1)
    (λ k. ap (λ o. is_in (set_in g.B.Shape g.B.Order.Endian) o k)
    (sym (slice_get_read masks (length masks) c.in-Some.component.now c.in_ok-mask.mask.now refl
    found.3.0 found.1)))
