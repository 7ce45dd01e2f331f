use Rattle.std.proofs.Common.{length, refl, sym, ap, ◌∙◌}
use Rattle.std.proofs.lemmas.Option.{slice_get_read}
use Rattle.bittle.specs.Values.{set_in}
use Rattle.bit_entities.specs.Entities.{World, world_of, is_in}
use Rattle.bit_entities.proofs.Matches.{mask_matches}
use Rattle.bit_entities.proofs.World.having.Goals as goal

pub returns-clause-mask : goal.returns-clause-mask
returns-clause-mask g c =
    let masks = c.args.self.now.components in
    let w : World = world_of g.row.N (set_in g.B.Shape g.B.Order.Endian) c.args.self.now.alive
    masks in
    let found = c.in_ok-mask.ensures.lookup in
    let all = g.met.B.FixedCapacity.one_capacity c.args.self.now.alive in
    let capacity = g.met.B.FixedCapacity.one_capacity c.in_ok-mask.mask.now in
    mask_matches w c.args.component _ c.args.self.now.sound (capacity ∙ sym all)
    (λ k. ap (λ o. is_in (set_in g.B.Shape g.B.Order.Endian) o k)
    (sym (slice_get_read masks (length masks) c.args.component c.in_ok-mask.mask.now refl
    found.3.0 found.1)))
