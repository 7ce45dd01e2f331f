use Rattle.std.proofs.Common.{◌≤◌, ◌-◌}
use Rattle.bittle.specs.Searches.{NoneIn}
use Rattle.bittle.specs.Values.{set_in}
use Rattle.bit_entities.specs.Entities.{world_of, matching}
use Rattle.bit_entities.proofs.World.first_with.Given as goal

abbrev pub invariant-loop-at : goal.invariant-loop-at
invariant-loop-at g l =
    let of = set_in g.B.Shape g.B.Order.Endian in
    record {
      onward : l.from ≤ l.at;
      none : NoneIn (matching (world_of g.row.N of l.self.alive l.self.components) l.required)
          l.from l.at;
    }

abbrev pub decreases-loop-at : goal.decreases-loop-at
decreases-loop-at g l = g.B.Shape.type_capacity - l.at
