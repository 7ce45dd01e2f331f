use Rattle.bittle.proofs.WalkRuns.{IsReplayed}
use Rattle.bittle.proofs.replay.steps.run.Given as goal

abbrev pub invariant-loop-k : goal.invariant-loop-k
invariant-loop-k g l = IsReplayed l.k l.steps (g.W.Counted.walk l.initial.walk).remaining
    (g.W.Counted.walk l.initial.walk).words (g.W.Counted.walk l.walk) l.answers l.scans
