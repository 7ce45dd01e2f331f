use Rattle.std.proofs.Common.{◌≡◌, ◌∷◌, [], length}
use Rattle.std.specs.Int.{int_wrapping_add, w32}
use Rattle.bittle.specs.Values.{set_in}
use Rattle.bit_entities.specs.Entities.{matching, world_of}
use Rattle.bit_uses.proofs.Steps.{IsStepped}
use Rattle.bit_uses.proofs.entities.step.Given as goal

abbrev pub invariant-loop-entity : goal.invariant-loop-entity
invariant-loop-entity g l = record {
  places : length l.places ≡ length l.initial.places;
  stepped : IsStepped (matching (world_of g.row.N (set_in g.B.Shape g.B.Order.Endian)
      l.world.alive l.world.components) (0 ∷ 1 ∷ [])) (int_wrapping_add w32) l.initial.places
      l.speeds l.entity-iterator.remaining l.places;
}
