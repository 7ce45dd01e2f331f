use Rattle.std.proofs.Common.{◌≡◌, take}
use Rattle.bittle.specs.Values.{set_in}
use Rattle.bit_entities.specs.Entities.{world_of, event_answers, final_world}
use Rattle.bit_entities.proofs.World.serve.Given as goal

abbrev pub invariant-loop-i : goal.invariant-loop-i
invariant-loop-i g l =
    let of = world_of g.row.N (set_in g.B.Shape g.B.Order.Endian) in
    let before = of l.initial.self.alive l.initial.self.components in
    record {
      answers : take l.i l.answers ≡ event_answers before (take l.i l.events);
      world : of l.self.alive l.self.components ≡ final_world before (take l.i l.events);
    }
