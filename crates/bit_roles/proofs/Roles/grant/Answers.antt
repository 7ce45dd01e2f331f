use Rattle.std.proofs.Common.{◌<◌, true, get_or, length, ap, sym, subst, ◌∙◌, inr, refl, arith}
use Rattle.std.proofs.lemmas.Bool.{lt-ltb}
use Rattle.std.proofs.lemmas.Option.{slice_get-get_or}
use Rattle.bittle.specs.Values.{set_in}
use Rattle.bit_roles.specs.Roles.{Allows, roles_of}
use Rattle.bit_roles.proofs.RoleLaws.{allows_granted, grant_gives, now_granted, other_roles_keep}
use Rattle.bit_roles.proofs.RoleLaws.{other_permissions_keep, stays_allowed, others_gain_nothing}
use Rattle.bit_roles.proofs.Rows.{row_changed, set_put_in}
use Rattle.bit_roles.proofs.Roles.grant.Goals as goal

pub returns-clause-roles : goal.returns-clause-roles
returns-clause-roles g c =
    let granted = c.args.self.now.granted in
    let set = get_or granted c.args.role c.index-self-role.result in
    let capacity = g.met.B.FixedCapacity.one_capacity set in
    let bits = c.bits.ensures.value c.args.self.now.fits in
    let inside : c.args.role < length granted = omega arith in
    row_changed g.row.N _ (set_in g.B.Shape g.B.Order.Endian) granted c.args.self.now.parents
    c.args.role c.args.permission true set c.set_bit.new.self inside
    (slice_get-get_or granted c.args.role c.index-self-role.result inside) capacity
    (omega (arith, bits, c.if-permission-bits.false)) (omega (arith, c.if-role.false))
    (set_put_in _ _ c.args.permission (omega (arith, capacity, bits, c.if-permission-bits.false))
    c.set_bit.ensures.set)

pub returns-clause-granted : goal.returns-clause-granted
returns-clause-granted g c done =
    let bits = c.bits.ensures.value c.args.self.now.fits in
    ap (λ roles. roles.granted c.args.role c.args.permission) (returns-clause-roles g c)
    ∙ now_granted (roles_of g.row.N g.B.Shape.type_capacity (set_in g.B.Shape g.B.Order.Endian)
    c.args.self.now.granted c.args.self.now.parents) c.args.role c.args.permission true
    (omega (arith, c.if-role.false)) (omega (arith, bits, c.if-permission-bits.false))

pub returns-clause-other_roles : goal.returns-clause-other_roles
returns-clause-other_roles g c other more apart =
    ap (λ roles. roles.granted other more) (returns-clause-roles g c)
    ∙ other_roles_keep (roles_of g.row.N g.B.Shape.type_capacity
    (set_in g.B.Shape g.B.Order.Endian) c.args.self.now.granted c.args.self.now.parents)
    c.args.role c.args.permission true other more apart

pub returns-clause-other_permissions : goal.returns-clause-other_permissions
returns-clause-other_permissions g c other more apart =
    ap (λ roles. roles.granted other more) (returns-clause-roles g c)
    ∙ other_permissions_keep (roles_of g.row.N g.B.Shape.type_capacity
    (set_in g.B.Shape g.B.Order.Endian) c.args.self.now.granted c.args.self.now.parents)
    c.args.role c.args.permission true other more apart

pub returns-clause-allows : goal.returns-clause-allows
returns-clause-allows g c done =
    allows_granted _ c.args.role c.args.permission (returns-clause-granted g c done)

pub returns-clause-still_allows : goal.returns-clause-still_allows
returns-clause-still_allows g c other allowed was =
    subst (λ roles. Allows roles other allowed) (sym (returns-clause-roles g c))
    (stays_allowed _ c.args.role c.args.permission other allowed was)

pub returns-clause-others_gain_nothing : goal.returns-clause-others_gain_nothing
returns-clause-others_gain_nothing g c other allowed apart is =
    others_gain_nothing _ c.args.role c.args.permission other allowed apart
    (subst (λ roles. Allows roles other allowed) (returns-clause-roles g c) is)

pub returns-clause-heirs : goal.returns-clause-heirs
returns-clause-heirs g c other done leads =
    let bits = c.bits.ensures.value c.args.self.now.fits in
    let a_role = lt-ltb c.args.role g.row.N (omega (arith, c.if-role.false)) in
    let known = lt-ltb c.args.permission g.B.Shape.type_capacity
    (omega (arith, bits, c.if-permission-bits.false)) in
    subst (λ roles. Allows roles other c.args.permission) (sym (returns-clause-roles g c))
    ((grant_gives (roles_of g.row.N g.B.Shape.type_capacity (set_in g.B.Shape g.B.Order.Endian)
    c.args.self.now.granted c.args.self.now.parents) c.args.role c.args.permission other
    c.args.permission (rw (a_role, known) refl)).1 (inr (refl, leads)))
