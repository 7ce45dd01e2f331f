use Rattle.std.proofs.Common.{◌≡◌, false, refl, sym, ◌∙◌}
use Rattle.std.proofs.lemmas.Bool.{true≢false}
use Rattle.bittle.specs.Values.{set_in}
use Rattle.bit_roles.specs.Roles.{Roles, roles_of}
use Rattle.bit_roles.proofs.RoleLaws.{allows_granted, allows_up, allows_down, allows_nothing}
use Rattle.bit_roles.proofs.Roles.allows.Goals as goal

pub loop-at-preserved : goal.loop-at-preserved
loop-at-preserved g c =
    let roles : Roles = roles_of g.row.N g.B.Shape.type_capacity
    (set_in g.B.Shape g.B.Order.Endian) c.args.self.now.granted c.args.self.now.parents in
    let so_far = c.loop-at.invariant.same in
    let up = sym c.in-Some.ensures.value in
    let none : roles.granted c.loop-at.at c.args.permission ≡ false =
    sym c.is_granted.ensures.value ∙ c.loop-at-test.true in
    record {
      same = (
        λ a. so_far.0 (allows_up roles c.loop-at.at c.in-Some.parent c.args.permission up a),
        λ a.
            allows_down roles c.loop-at.at c.in-Some.parent c.args.permission up none (so_far.1 a),
      );
      inside = λ _. c.loop-at.invariant.inside c.in-Some.ensures.a_role;
    }

pub returns-in-None-clause-value : goal.returns-in-None-clause-value
returns-in-None-clause-value g c =
    let roles : Roles = roles_of g.row.N g.B.Shape.type_capacity
    (set_in g.B.Shape g.B.Order.Endian) c.args.self.now.granted c.args.self.now.parents in
    let so_far = c.loop-at.invariant.same in
    let none : roles.granted c.loop-at.at c.args.permission ≡ false =
    sym c.is_granted.ensures.value ∙ c.loop-at-test.true in (
      λ no. absurd (true≢false (sym no)),
      λ a. absurd (allows_nothing roles c.loop-at.at c.args.permission
          (sym c.in-None.ensures.value) none (so_far.1 a)),
    )

pub returns-clause-value : goal.returns-clause-value
returns-clause-value g c =
    let roles : Roles = roles_of g.row.N g.B.Shape.type_capacity
    (set_in g.B.Shape g.B.Order.Endian) c.args.self.now.granted c.args.self.now.parents in
    let so_far = c.loop-at.invariant.same in (
      λ yes. so_far.0 (allows_granted roles c.loop-at.at c.args.permission
          (sym c.is_granted.ensures.value ∙ c.loop-at-test.false)),
      λ a. refl,
    )

pub returns-clause-a_role : goal.returns-clause-a_role
returns-clause-a_role g c _ =
    c.loop-at.invariant.inside (c.is_granted.ensures.a_role c.loop-at-test.false)

pub returns-clause-denies : goal.returns-clause-denies
returns-clause-denies g c own up =
    absurd (allows_nothing (roles_of g.row.N g.B.Shape.type_capacity
    (set_in g.B.Shape g.B.Order.Endian) c.args.self.now.granted c.args.self.now.parents)
    c.args.role c.args.permission up own ((returns-clause-value g c).0 refl))

pub returns-in-None-clause-own : goal.returns-in-None-clause-own
returns-in-None-clause-own g c own =
    (returns-in-None-clause-value g c).1 (allows_granted _ c.args.role c.args.permission own)

pub returns-clause-own : goal.returns-clause-own
returns-clause-own g c own = refl
