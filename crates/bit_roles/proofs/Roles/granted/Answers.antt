use Rattle.std.proofs.Common.{length, refl, arith}
use Rattle.std.proofs.lemmas.Option.{slice_get_read}
use Rattle.bittle.specs.Values.{set_in}
use Rattle.bit_roles.proofs.Rows.{permission_within}
use Rattle.bit_roles.proofs.Roles.granted.Goals as goal

pub returns-clause-permissions : goal.returns-clause-permissions
returns-clause-permissions g c permission below =
    let granted = c.args.self.now.granted in
    let set = c.in_ok-set.set.now in
    let found = c.in_ok-set.ensures.lookup in
    let capacity = g.met.B.FixedCapacity.one_capacity set in
    permission_within (set_in g.B.Shape g.B.Order.Endian) _ set permission
    (slice_get_read granted (length granted) c.args.role set refl found.3.0 found.1)
    (omega (arith, capacity, below))
