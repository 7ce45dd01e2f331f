use Rattle.std.proofs.Common.{◌↔◌, ◌<◌}
use Rattle.bittle.specs.Values.{set_in}
use Rattle.bit_roles.specs.Roles.{roles_of, Allows}
use Rattle.bit_roles.proofs.Roles.allows.Given as goal

abbrev pub invariant-loop-at : goal.invariant-loop-at
invariant-loop-at g l =
    let roles = roles_of g.row.N g.B.Shape.type_capacity (set_in g.B.Shape g.B.Order.Endian)
    l.self.granted l.self.parents in record {
      same : Allows roles l.at l.permission ↔ Allows roles l.role l.permission;
      inside : l.at < g.row.N → l.role < g.row.N;
    }

abbrev pub decreases-loop-at : goal.decreases-loop-at
decreases-loop-at g l = l.at
