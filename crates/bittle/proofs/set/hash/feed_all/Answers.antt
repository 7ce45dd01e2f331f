use Rattle.std.proofs.Common.{ap, arith, length}
use Rattle.bittle.proofs.set.hash.feed_all.Goals as goal

pub overflow_add-count : goal.overflow_add-count
overflow_add-count g c =
    let step = g.met.I.Counted.steps_front _ _ _ c.in-Some.ensures.steps in
    omega (arith, ap length step.gave, c.loop-index.invariant.count)

pub loop-index-preserved : goal.loop-index-preserved
loop-index-preserved g c =
    let t = c.loop-index.invariant in
    let step = g.met.I.Counted.steps_front _ _ _ c.in-Some.ensures.steps in
    record {
      count = omega (arith, ap length step.gave, t.count);
      fed = rw c.write_u32.ensures (rw step.gave at t.fed);
    }

pub returns : goal.returns
returns g c =
    let t = c.loop-index.invariant in
    let step = g.met.I.Counted.steps_front _ _ _ c.in-None.ensures.steps in
    record { count = omega (arith, ap length step.gave.0, t.count); fed = rw step.gave.0 at t.fed }
