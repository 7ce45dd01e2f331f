use Rattle.std.proofs.Common.{arith, ap}
use Rattle.bittle.specs.Values.{kind_in, set_in}
use Rattle.bittle_bits.proofs.OnesOrZeros.{ones_or_zeros-capacity}
use Rattle.bittle_ext.specs.Edges.{paired}
use Rattle.bittle_ext.proofs.EdgeRuns.{even_old, last_edge, open_run, closed_run, some_left}
use Rattle.bittle_ext.proofs.EdgeRuns.{still_even, rest_alternates}
use Rattle.bittle_ext.proofs.run_iterators.last_run.Goals as goal

pub returns-in_default-clause-gave : goal.returns-in_default-clause-gave
unfolding paired
returns-in_default-clause-gave g c =
    let none = c.in_default.ensures.steps.gave in
    (ap (paired c.args.to) none.0, ap (paired c.args.to) none.1)

pub is_open-is_open-requires-clause-within : goal.is_open-is_open-requires-clause-within
is_open-is_open-requires-clause-within g c =
    let ours = kind_in g.B.Shape g.E.Endian g.K.Kind c.args.bits.now in
    omega (
      arith,
      (last_edge ours c.args.to _ _ _ c.in-Some.ensures.steps.gave c.requires.alternate).below,
      ones_or_zeros-capacity g.K.Kind.ONES (set_in g.B.Shape g.E.Endian c.args.bits.now),
    )

pub returns-then-is_open-clause-gave : goal.returns-then-is_open-clause-gave
returns-then-is_open-clause-gave g c =
    open_run (kind_in g.B.Shape g.E.Endian g.K.Kind c.args.bits.now) c.args.to _ _ _
    c.in-Some.ensures.steps.gave c.requires.alternate c.if-is_open.ensures

pub returns-then-is_open-clause-alternate : goal.returns-then-is_open-clause-alternate
returns-then-is_open-clause-alternate g c =
    (last_edge (kind_in g.B.Shape g.E.Endian g.K.Kind c.args.bits.now) c.args.to _ _ _
    c.in-Some.ensures.steps.gave c.requires.alternate).rest

pub returns-then-is_open-clause-closed : goal.returns-then-is_open-clause-closed
returns-then-is_open-clause-closed g c = λ _.
    (last_edge (kind_in g.B.Shape g.E.Endian g.K.Kind c.args.bits.now) c.args.to _ _ _
    c.in-Some.ensures.steps.gave c.requires.alternate).begins c.if-is_open.ensures

pub returns-in-Some-next_back-clause-gave : goal.returns-in-Some-next_back-clause-gave
returns-in-Some-next_back-clause-gave g c =
    let ours = kind_in g.B.Shape g.E.Endian g.K.Kind c.args.bits.now in
    let took = c.in-Some.ensures.steps.gave in
    closed_run ours c.args.to _ _ _ took c.requires.alternate
    (even_old ours c.args.to _ _ _ took c.requires.alternate _ c.requires.closed
    c.if-is_open.ensures)
    _ _ c.in-Some-next_back.ensures.steps.gave

pub returns-in-Some-next_back-clause-alternate : goal.returns-in-Some-next_back-clause-alternate
returns-in-Some-next_back-clause-alternate g c =
    let ours = kind_in g.B.Shape g.E.Endian g.K.Kind c.args.bits.now in
    let took = c.in-Some.ensures.steps.gave in
    rest_alternates ours c.args.to _ _ _ took c.requires.alternate
    (even_old ours c.args.to _ _ _ took c.requires.alternate _ c.requires.closed
    c.if-is_open.ensures)
    _ _ c.in-Some-next_back.ensures.steps.gave

pub returns-in-Some-next_back-clause-closed : goal.returns-in-Some-next_back-clause-closed
returns-in-Some-next_back-clause-closed g c = λ _.
    let ours = kind_in g.B.Shape g.E.Endian g.K.Kind c.args.bits.now in
    let took = c.in-Some.ensures.steps.gave in
    still_even ours c.args.to _ _ _ took c.requires.alternate
    (even_old ours c.args.to _ _ _ took c.requires.alternate _ c.requires.closed
    c.if-is_open.ensures)
    _ _ c.in-Some-next_back.ensures.steps.gave

pub returns-in-None-clause-gave : goal.returns-in-None-clause-gave
returns-in-None-clause-gave g c =
    let ours = kind_in g.B.Shape g.E.Endian g.K.Kind c.args.bits.now in
    let took = c.in-Some.ensures.steps.gave in
    absurd (some_left ours c.args.to _ _ _ took c.requires.alternate
    (even_old ours c.args.to _ _ _ took c.requires.alternate _ c.requires.closed
    c.if-is_open.ensures)
    c.in-None.ensures.steps.gave.0)
