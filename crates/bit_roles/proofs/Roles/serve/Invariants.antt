use Rattle.std.proofs.Common.{◌≡◌, take}
use Rattle.bittle.specs.Values.{set_in}
use Rattle.bit_roles.specs.Roles.{roles_of, request_answers, final_roles}
use Rattle.bit_roles.proofs.Roles.serve.Given as goal

abbrev pub invariant-loop-i : goal.invariant-loop-i
invariant-loop-i g l =
    let of = roles_of g.row.N g.B.Shape.type_capacity (set_in g.B.Shape g.B.Order.Endian) in
    let before = of l.initial.self.granted l.initial.self.parents in
    record {
      answers : take l.i l.answers ≡ request_answers before (take l.i l.requests);
      roles : of l.self.granted l.self.parents ≡ final_roles before (take l.i l.requests);
    }
