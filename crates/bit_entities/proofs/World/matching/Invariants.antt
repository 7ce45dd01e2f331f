use Rattle.std.proofs.Common.{◌≡◌, take}
use Rattle.bittle.specs.Values.{set_in}
use Rattle.bit_entities.specs.Entities.{world_of, matching}
use Rattle.bit_entities.proofs.World.matching.Given as goal

abbrev pub invariant-loop-i : goal.invariant-loop-i
invariant-loop-i g l =
    let of = set_in g.B.Shape g.B.Order.Endian in
    record {
      mask : of l.mask
          ≡ matching (world_of g.row.N of l.self.alive l.self.components) (take l.i l.required);
    }
