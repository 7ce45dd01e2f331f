use Rattle.std.proofs.Common.{inl, inr, sym, ◌∙◌, arith}
use Rattle.std.proofs.lemmas.Bool.{cases_Bool, eqb-true}
use Rattle.bittle.specs.PlainSet.{size}
use Rattle.bittle.specs.Values.{set_in}
use Rattle.bittle.proofs.CallerSets.{size_some}
use Rattle.bit_entities.specs.Entities.{World, world_of}
use Rattle.bit_entities.proofs.World.is_empty.Goals as goal

pub returns-clause-none : goal.returns-clause-none
returns-clause-none g c is entity =
    let w : World = world_of g.row.N (set_in g.B.Shape g.B.Order.Endian) c.args.self.now.alive
    c.args.self.now.components in
    let zero = eqb-true (size w.alive) 0 (sym c.all_zeros.ensures.in_own_order ∙ is) in
    elim (cases_Bool (w.alive.has entity)) [
      | inl lives ↦
          let below = c.args.self.now.sound.living_are_below entity lives in
          let some = size_some w.alive entity below lives in
          absurd (omega (arith, some, zero))
      | inr dead ↦ dead
    ]
