use Rattle.std.proofs.Common.{◌<◌, Some, length, inl, inr, ap, sym, subst, ◌∙◌, arith}
use Rattle.std.proofs.lemmas.Option.{same_Some}
use Rattle.bittle.specs.Values.{set_in}
use Rattle.bit_roles.specs.Roles.{Allows, LeadsTo, ancestor, may_inherit, roles_of}
use Rattle.bit_roles.specs.declared.Request.TheVariants.{Inherit}
use Rattle.bit_roles.proofs.RoleLaws.{done_exactly, less_both, inherit_gives, inherit_replaces}
use Rattle.bit_roles.proofs.RoleLaws.{leads_as_parent, lesser_still_lead, other_parents_keep}
use Rattle.bit_roles.proofs.RoleLaws.{others_allow_same}
use Rattle.bit_roles.proofs.Rows.{lesser_written, parent_written, row_with_parent}
use Rattle.bit_roles.proofs.Roles.inherit.Goals as goal

pub invariant_of-self : goal.invariant_of-self
invariant_of-self g c =
    let old = c.args.self.now in
    let inside : c.args.role < length old.parents = omega arith in
    record {
      fits = old.fits;
      lesser = lesser_written old.parents c.args.role (Some c.args.parent) inside
          (λ p is. omega (arith, same_Some c.args.parent p is)) old.lesser;
    }

pub returns-clause-parent : goal.returns-clause-parent
returns-clause-parent g c done =
    let parents = c.args.self.now.parents in
    let inside : c.args.role < length parents = omega arith in
    parent_written parents c.args.role (Some c.args.parent) inside

pub returns-clause-roles : goal.returns-clause-roles
returns-clause-roles g c =
    let parents = c.args.self.now.parents in
    let inside : c.args.role < length parents = omega arith in
    row_with_parent parents c.args.role (Some c.args.parent) inside g.row.N _
    (set_in g.B.Shape g.B.Order.Endian) c.args.self.now.granted _
    (less_both c.args.role g.row.N c.args.parent c.args.role (omega arith, omega arith))

pub returns-clause-others : goal.returns-clause-others
returns-clause-others g c other apart =
    ap (λ roles. roles.parent other) (returns-clause-roles g c)
    ∙ other_parents_keep (roles_of g.row.N g.B.Shape.type_capacity
    (set_in g.B.Shape g.B.Order.Endian) c.args.self.now.granted c.args.self.now.parents)
    _ c.args.role (Some c.args.parent) other apart

pub returns-clause-allows : goal.returns-clause-allows
returns-clause-allows g c allowed done was =
    let roles = roles_of g.row.N g.B.Shape.type_capacity (set_in g.B.Shape g.B.Order.Endian)
    c.args.self.now.granted c.args.self.now.parents in
    let is_done = (done_exactly roles (Inherit c.args.role c.args.parent)).1
    (omega arith, omega arith) in
    let gives = inherit_gives roles c.args.role c.args.parent allowed c.args.self.now.lesser is_done
    in subst (λ r. Allows r c.args.role allowed) (sym (returns-clause-roles g c))
    (gives.1 (inr was))

pub returns-clause-allows_own : goal.returns-clause-allows_own
returns-clause-allows_own g c allowed done has =
    let roles = roles_of g.row.N g.B.Shape.type_capacity (set_in g.B.Shape g.B.Order.Endian)
    c.args.self.now.granted c.args.self.now.parents in
    let is_done = (done_exactly roles (Inherit c.args.role c.args.parent)).1
    (omega arith, omega arith) in
    let gives = inherit_gives roles c.args.role c.args.parent allowed c.args.self.now.lesser is_done
    in subst (λ r. Allows r c.args.role allowed) (sym (returns-clause-roles g c))
    (gives.1 (inl has))

pub returns-clause-heirs : goal.returns-clause-heirs
returns-clause-heirs g c other allowed done leads is =
    let roles = roles_of g.row.N g.B.Shape.type_capacity (set_in g.B.Shape g.B.Order.Endian)
    c.args.self.now.granted c.args.self.now.parents in
    let is_done = (done_exactly roles (Inherit c.args.role c.args.parent)).1
    (omega arith, omega arith) in
    let replaces = inherit_replaces roles c.args.role c.args.parent other allowed
    c.args.self.now.lesser is_done in
    subst (λ r. Allows r other allowed) (sym (returns-clause-roles g c))
    (replaces.1 (inr (leads, is)))

pub returns-clause-allows_only : goal.returns-clause-allows_only
returns-clause-allows_only g c allowed done is =
    let roles = roles_of g.row.N g.B.Shape.type_capacity (set_in g.B.Shape g.B.Order.Endian)
    c.args.self.now.granted c.args.self.now.parents in
    let is_done = (done_exactly roles (Inherit c.args.role c.args.parent)).1
    (omega arith, omega arith) in
    let gives = inherit_gives roles c.args.role c.args.parent allowed c.args.self.now.lesser is_done
    in gives.0 (subst (λ r. Allows r c.args.role allowed) (returns-clause-roles g c) is)

pub returns-clause-others_allow : goal.returns-clause-others_allow
returns-clause-others_allow g c other allowed apart =
    let same = returns-clause-roles g c in
    let roles = roles_of g.row.N g.B.Shape.type_capacity (set_in g.B.Shape g.B.Order.Endian)
    c.args.self.now.granted c.args.self.now.parents in
    let keep = others_allow_same roles (may_inherit roles c.args.role c.args.parent) c.args.role
    (Some c.args.parent) other allowed apart in (
      λ a. keep.0 (subst (λ r. Allows r other allowed) same a),
      λ a. subst (λ r. Allows r other allowed) (sym same) (keep.1 a),
    )

pub returns-clause-leads : goal.returns-clause-leads
unfolding ancestor LeadsTo
returns-clause-leads g c done = (1, returns-clause-parent g c done)

pub returns-clause-leads_on : goal.returns-clause-leads_on
returns-clause-leads_on g c other done leads =
    let roles = roles_of g.row.N g.B.Shape.type_capacity (set_in g.B.Shape g.B.Order.Endian)
    c.args.self.now.granted c.args.self.now.parents in
    let is_done = (done_exactly roles (Inherit c.args.role c.args.parent)).1
    (omega arith, omega arith) in
    subst (λ r. LeadsTo r c.args.role other) (sym (returns-clause-roles g c))
    (leads_as_parent roles (may_inherit roles c.args.role c.args.parent) c.args.role c.args.parent
    other c.args.self.now.lesser is_done (omega arith) leads)

pub returns-clause-lesser_still_lead : goal.returns-clause-lesser_still_lead
returns-clause-lesser_still_lead g c other to below leads =
    let roles = roles_of g.row.N g.B.Shape.type_capacity (set_in g.B.Shape g.B.Order.Endian)
    c.args.self.now.granted c.args.self.now.parents in
    subst (λ r. LeadsTo r other to) (sym (returns-clause-roles g c))
    (lesser_still_lead roles (may_inherit roles c.args.role c.args.parent) c.args.role
    c.args.parent other to c.args.self.now.lesser below leads)
