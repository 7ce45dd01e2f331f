use Rattle.std.proofs.Common.{length, refl, ◌∙◌, arith}
use Rattle.std.proofs.lemmas.Option.{slice_get_read, slice_get_past}
use Rattle.bittle.specs.Values.{set_in}
use Rattle.bit_roles.proofs.Rows.{permission_within, permission_none}
use Rattle.bit_roles.proofs.Roles.is_granted.Goals as goal

pub returns-then-permission-bits-clause-value : goal.returns-then-permission-bits-clause-value
returns-then-permission-bits-clause-value g c =
    let granted = c.args.self.now.granted in
    let found = c.in-Some.ensures.lookup in
    let capacity = g.met.B.FixedCapacity.one_capacity c.in-Some.set.now in
    let bits = c.bits.ensures.value c.args.self.now.fits in
    c.test_bit.ensures.value
    ∙ permission_within (set_in g.B.Shape g.B.Order.Endian) _ c.in-Some.set.now
    c.args.permission
    (slice_get_read granted (length granted) c.args.role c.in-Some.set.now refl found.3.0 found.1)
    (omega (arith, capacity, bits, c.if-permission-bits.true))

pub returns-in-None-clause-value : goal.returns-in-None-clause-value
returns-in-None-clause-value g c =
    permission_none (set_in g.B.Shape g.B.Order.Endian) _ c.args.permission
    (slice_get_past c.args.self.now.granted c.args.role c.in-None.ensures.lookup.3)
