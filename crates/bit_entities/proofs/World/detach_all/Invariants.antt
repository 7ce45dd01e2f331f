use Rattle.std.proofs.Common.{◌≡◌}
use Rattle.bittle.specs.Values.{set_in}
use Rattle.bit_entities.specs.Entities.{world_of, without_first}
use Rattle.bit_entities.proofs.World.detach_all.Given as goal

abbrev pub invariant-loop-component : goal.invariant-loop-component
invariant-loop-component g l =
    let of = world_of g.row.N (set_in g.B.Shape g.B.Order.Endian) in
    record {
      alive : l.self.alive ≡ l.initial.self.alive;
      lost : of l.self.alive l.self.components
          ≡ without_first (of l.initial.self.alive l.initial.self.components) l.entity l.component;
    }
