use Rattle.std.proofs.Common.{◌<◌, None, length, ap, sym, subst, ◌∙◌, arith}
use Rattle.std.proofs.lemmas.Bool.{lt-ltb}
use Rattle.bittle.specs.Values.{set_in}
use Rattle.bit_roles.specs.Roles.{Allows, roles_of}
use Rattle.bit_roles.proofs.RoleLaws.{other_parents_keep, others_allow_same}
use Rattle.bit_roles.proofs.Rows.{lesser_written, parent_written, row_with_parent}
use Rattle.bit_roles.proofs.Taken.{clear_leaves_own, none_gains_by_clearing}
use Rattle.bit_roles.proofs.Roles.clear_parent.Goals as goal

pub invariant_of-self : goal.invariant_of-self
invariant_of-self g c =
    let old = c.args.self.now in
    let inside : c.args.role < length old.parents = omega arith in
    record {
      fits = old.fits;
      lesser = lesser_written old.parents c.args.role None inside (λ p is. absurd (cc)) old.lesser;
    }

pub returns-clause-parent : goal.returns-clause-parent
returns-clause-parent g c done =
    let parents = c.args.self.now.parents in
    let inside : c.args.role < length parents = omega arith in
    parent_written parents c.args.role None inside

pub returns-clause-roles : goal.returns-clause-roles
returns-clause-roles g c =
    let parents = c.args.self.now.parents in
    let inside : c.args.role < length parents = omega arith in
    row_with_parent parents c.args.role None inside g.row.N _
    (set_in g.B.Shape g.B.Order.Endian) c.args.self.now.granted _
    (lt-ltb c.args.role g.row.N (omega arith))

pub returns-clause-others : goal.returns-clause-others
returns-clause-others g c other apart =
    ap (λ roles. roles.parent other) (returns-clause-roles g c)
    ∙ other_parents_keep (roles_of g.row.N g.B.Shape.type_capacity
    (set_in g.B.Shape g.B.Order.Endian) c.args.self.now.granted c.args.self.now.parents)
    _ c.args.role None other apart

pub returns-clause-allows : goal.returns-clause-allows
returns-clause-allows g c allowed done =
    let same = returns-clause-roles g c in
    let exactly = clear_leaves_own (roles_of g.row.N g.B.Shape.type_capacity
    (set_in g.B.Shape g.B.Order.Endian) c.args.self.now.granted c.args.self.now.parents)
    c.args.role allowed (omega arith) in (
      λ a. exactly.0 (subst (λ r. Allows r c.args.role allowed) same a),
      λ own. subst (λ r. Allows r c.args.role allowed) (sym same) (exactly.1 own),
    )

pub returns-clause-others_allow : goal.returns-clause-others_allow
returns-clause-others_allow g c other allowed apart =
    let same = returns-clause-roles g c in
    let keep = others_allow_same (roles_of g.row.N g.B.Shape.type_capacity
    (set_in g.B.Shape g.B.Order.Endian) c.args.self.now.granted c.args.self.now.parents)
    _ c.args.role None other allowed apart in (
      λ a. keep.0 (subst (λ r. Allows r other allowed) same a),
      λ a. subst (λ r. Allows r other allowed) (sym same) (keep.1 a),
    )

pub returns-clause-none_gains : goal.returns-clause-none_gains
returns-clause-none_gains g c other allowed is =
    none_gains_by_clearing _ c.args.role other allowed
    (subst (λ roles. Allows roles other allowed) (returns-clause-roles g c) is)
