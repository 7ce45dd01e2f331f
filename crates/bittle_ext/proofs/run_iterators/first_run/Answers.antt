use Rattle.std.proofs.Common.{◌∙◌, ◌∷◌, ap}
use Rattle.bittle_ext.specs.Edges.{paired}
use Rattle.bittle_ext.proofs.run_iterators.first_run.Goals as goal

pub returns-in_default-clause-gave : goal.returns-in_default-clause-gave
unfolding paired
returns-in_default-clause-gave g c =
    let none = c.in_default.ensures.steps.gave in
    (ap (paired c.args.to) none.0, ap (paired c.args.to) none.1)

pub returns-in-Some-next-clause-gave : goal.returns-in-Some-next-clause-gave
unfolding paired
returns-in-Some-next-clause-gave g c = ap (paired c.args.to) (c.in-Some.ensures.steps.gave
    ∙ ap (λ xs. c.in-Some.start ∷ xs) c.in-Some-next.ensures.steps.gave)

pub returns-in-None-clause-gave : goal.returns-in-None-clause-gave
unfolding paired
returns-in-None-clause-gave g c =
    let none = c.in-None.ensures.steps.gave in
    rw none.1 (ap (paired c.args.to) (c.in-Some.ensures.steps.gave
    ∙ ap (λ xs. c.in-Some.start ∷ xs) none.0))
