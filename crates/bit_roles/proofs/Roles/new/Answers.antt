use Rattle.std.proofs.Common.{ap}
use Rattle.bittle.specs.Values.{set_in}
use Rattle.bit_roles.proofs.Rows.{none_lesser, rows_are_bare}
use Rattle.bit_roles.proofs.Roles.new.Goals as goal

pub invariant_of-result-clause-lesser : goal.invariant_of-result-clause-lesser
invariant_of-result-clause-lesser g c = none_lesser g.row.N

pub returns-clause-roles : goal.returns-clause-roles
returns-clause-roles g c =
    rows_are_bare g.row.N _ (set_in g.B.Shape g.B.Order.Endian) c.zeros.result
    (λ p. ap (λ s. s.has p) c.zeros.ensures.in_own_order)

pub returns-clause-none : goal.returns-clause-none
returns-clause-none g c role permission =
    ap (λ roles. roles.granted role permission) (returns-clause-roles g c)

pub returns-clause-orphans : goal.returns-clause-orphans
returns-clause-orphans g c role = ap (λ roles. roles.parent role) (returns-clause-roles g c)
