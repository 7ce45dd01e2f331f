use Rattle.std.proofs.Common.{◌||◌, ◌∙◌, arith}
use Rattle.bittle.specs.SetOperations.{first_alone}
use Rattle.bittle_ext.proofs.CallerMembers.{contains_after_operation}
use Rattle.bittle_ext_uses.proofs.one_line.offered.Goals as goal

pub returns-clause-reserved : goal.returns-clause-reserved
returns-clause-reserved c = λ k below has.
    let last = contains_after_operation first_alone _ _ _ k c.difference.ensures.in_own_order
    below below in
    grind (arith, last, has)

pub returns-clause-free : goal.returns-clause-free
returns-clause-free c = λ k below lacks some.
    let first = contains_after_operation ◌||◌ _ _ _ k c.union.ensures.in_own_order below below in
    let last = contains_after_operation first_alone _ _ _ k c.difference.ensures.in_own_order
    below below in
    last ∙ rw (first ∙ some, lacks)

pub returns-clause-set : goal.returns-clause-set
returns-clause-set c = rw (c.difference.ensures.in_own_order, c.union.ensures.in_own_order)
