use Rattle.std.proofs.Common.{◌<◌, false, get_or, length, ap, sym, subst, ◌∙◌, arith}
use Rattle.std.proofs.lemmas.Option.{slice_get-get_or}
use Rattle.bittle.specs.Values.{set_in}
use Rattle.bit_roles.specs.Roles.{Allows, roles_of}
use Rattle.bit_roles.proofs.RoleLaws.{now_granted, other_roles_keep, other_permissions_keep}
use Rattle.bit_roles.proofs.Rows.{row_changed, set_taken_out}
use Rattle.bit_roles.proofs.Taken.{still_held, none_gains, others_keep, still_inherited}
use Rattle.bit_roles.proofs.Roles.revoke.Goals as goal

pub returns-clause-roles : goal.returns-clause-roles
returns-clause-roles g c =
    let granted = c.args.self.now.granted in
    let set = get_or granted c.args.role c.index-self-role.result in
    let capacity = g.met.B.FixedCapacity.one_capacity set in
    let bits = c.bits.ensures.value c.args.self.now.fits in
    let inside : c.args.role < length granted = omega arith in
    row_changed g.row.N _ (set_in g.B.Shape g.B.Order.Endian) granted c.args.self.now.parents
    c.args.role c.args.permission false set c.clear_bit.new.self inside
    (slice_get-get_or granted c.args.role c.index-self-role.result inside) capacity
    (omega (arith, bits, c.if-permission-bits.false)) (omega (arith, c.if-role.false))
    (set_taken_out _ _ c.args.permission (omega (arith, capacity, bits, c.if-permission-bits.false))
    c.clear_bit.ensures.set)

pub returns-clause-revoked : goal.returns-clause-revoked
returns-clause-revoked g c done =
    let bits = c.bits.ensures.value c.args.self.now.fits in
    ap (λ roles. roles.granted c.args.role c.args.permission) (returns-clause-roles g c)
    ∙ now_granted (roles_of g.row.N g.B.Shape.type_capacity (set_in g.B.Shape g.B.Order.Endian)
    c.args.self.now.granted c.args.self.now.parents) c.args.role c.args.permission false
    (omega (arith, c.if-role.false)) (omega (arith, bits, c.if-permission-bits.false))

pub returns-clause-other_roles : goal.returns-clause-other_roles
returns-clause-other_roles g c other more apart =
    ap (λ roles. roles.granted other more) (returns-clause-roles g c)
    ∙ other_roles_keep (roles_of g.row.N g.B.Shape.type_capacity
    (set_in g.B.Shape g.B.Order.Endian) c.args.self.now.granted c.args.self.now.parents)
    c.args.role c.args.permission false other more apart

pub returns-clause-other_permissions : goal.returns-clause-other_permissions
returns-clause-other_permissions g c other more apart =
    ap (λ roles. roles.granted other more) (returns-clause-roles g c)
    ∙ other_permissions_keep (roles_of g.row.N g.B.Shape.type_capacity
    (set_in g.B.Shape g.B.Order.Endian) c.args.self.now.granted c.args.self.now.parents)
    c.args.role c.args.permission false other more apart

pub returns-clause-allows : goal.returns-clause-allows
returns-clause-allows g c done =
    let bits = c.bits.ensures.value c.args.self.now.fits in
    let same = returns-clause-roles g c in
    let exactly = still_inherited (roles_of g.row.N g.B.Shape.type_capacity
    (set_in g.B.Shape g.B.Order.Endian) c.args.self.now.granted c.args.self.now.parents)
    c.args.role c.args.permission c.args.self.now.lesser (omega (arith, c.if-role.false))
    (omega (arith, bits, c.if-permission-bits.false)) in (
      λ a. exactly.0 (subst (λ r. Allows r c.args.role c.args.permission) same a),
      λ up. subst (λ r. Allows r c.args.role c.args.permission) (sym same) (exactly.1 up),
    )

pub returns-clause-still_allows : goal.returns-clause-still_allows
unfolding Allows
returns-clause-still_allows g c other allowed apart was =
    subst (λ roles. Allows roles other allowed) (sym (returns-clause-roles g c))
    (still_held _ c.args.role c.args.permission other allowed was.0 was.1 was.2 was.3
    (λ both. apart both.1))

pub returns-clause-others_allow : goal.returns-clause-others_allow
returns-clause-others_allow g c other allowed apart =
    let same = returns-clause-roles g c in
    let keep = others_keep _ c.args.role c.args.permission other allowed apart in (
      λ a. keep.0 (subst (λ r. Allows r other allowed) same a),
      λ a. subst (λ r. Allows r other allowed) (sym same) (keep.1 a),
    )

pub returns-clause-none_gains : goal.returns-clause-none_gains
returns-clause-none_gains g c other allowed is =
    none_gains _ c.args.role c.args.permission other allowed
    (subst (λ roles. Allows roles other allowed) (returns-clause-roles g c) is)
