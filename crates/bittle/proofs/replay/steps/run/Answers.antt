use Rattle.std.proofs.Common.{refl, arith}
use Rattle.bittle.proofs.WalkRuns.{replayed_start, replayed_more, replayed_end}
use Rattle.bittle.proofs.replay.steps.run.Goals as goal

pub loop-k-init : goal.loop-k-init
loop-k-init g c = rw c.new-scans.ensures (replayed_start _ _ _ _ _ refl c.requires.fresh refl)

pub loop-k-preserved : goal.loop-k-preserved
loop-k-preserved g c =
    let e = c.take_step.ensures in
    rw (c.push.ensures, c.scans.ensures)
    (replayed_more _ _ _ _ _ _ _ _ _ _ c.loop-k-test.true (omega arith) c.loop-k.invariant
    e.answer e.remaining e.items e.scans e.words e.bounded)

pub returns-clause-answers : goal.returns-clause-answers
returns-clause-answers g c = (replayed_end _ _ _ _ _ _ _ c.loop-k-test.false
    (omega arith) c.loop-k.invariant).0

pub returns-clause-scans : goal.returns-clause-scans
returns-clause-scans g c = (replayed_end _ _ _ _ _ _ _ c.loop-k-test.false
    (omega arith) c.loop-k.invariant).1

pub returns-clause-own : goal.returns-clause-own
returns-clause-own g c = (replayed_end _ _ _ _ _ _ _ c.loop-k-test.false
    (omega arith) c.loop-k.invariant).2
