use Rattle.std.proofs.Common.{◌<◌, get_or, length, sym, ap, ◌∙◌, subst, arith}
use Rattle.bittle.specs.Values.{set_in}
use Rattle.bit_entities.specs.Entities.{World, world_of, EndsAtCapacity, having}
use Rattle.bit_entities.proofs.Matches.{matching_more, matching_ends}
use Rattle.bit_entities.proofs.World.matching.Goals as goal

pub loop-i-preserved : goal.loop-i-preserved
loop-i-preserved g c =
    let w : World = world_of g.row.N (set_in g.B.Shape g.B.Order.Endian) c.args.self.now.alive
    c.args.self.now.components in
    let so_far = c.loop-i.invariant.mask in
    let inside : c.loop-i.i < length c.args.required.now = omega arith in
    record {
      mask = c.those_having-mask.ensures
          (subst EndsAtCapacity (sym so_far) (matching_ends w _ c.args.self.now.sound))
          ∙ ap (λ s. having w s (get_or c.args.required.now c.loop-i.i 0)) so_far
          ∙ matching_more w c.args.required.now c.loop-i.i 0 inside;
    }
