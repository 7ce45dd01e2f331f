use Rattle.std.proofs.Common.{◌≡◌, take, true}
use Rattle.std.specs.List.{list_all}
use Rattle.bittle.specs.Values.{set_in}
use Rattle.bit_entities.specs.Entities.{world_of}
use Rattle.bit_entities.proofs.World.has_all.Given as goal

abbrev pub invariant-loop-i : goal.invariant-loop-i
invariant-loop-i g l =
    let of = set_in g.B.Shape g.B.Order.Endian in
    let w = world_of g.row.N of l.self.alive l.self.components in
    record { all : list_all (w.has l.entity) (take l.i l.required) ≡ true }
