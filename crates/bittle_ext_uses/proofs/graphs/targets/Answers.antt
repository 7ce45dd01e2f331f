use Rattle.std.proofs.Common.{false}
use Rattle.bittle_ext_uses.proofs.graphs.targets.Goals as goal

pub loop-node-preserved : goal.loop-node-preserved
loop-node-preserved c =
    let kept = rw c.in-Some.ensures.steps.gave at c.loop-node.invariant in
    rw (c.union_assign.ensures.union false) kept
