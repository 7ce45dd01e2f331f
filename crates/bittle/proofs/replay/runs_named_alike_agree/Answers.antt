use Rattle.bittle.proofs.MixedRuns.{big_runs_agree, little_runs_agree}
use Rattle.bittle.proofs.replay.runs_named_alike_agree.Goals as goal

pub returns-clause-big : goal.returns-clause-big
returns-clause-big c = big_runs_agree

pub returns-clause-little : goal.returns-clause-little
returns-clause-little c = little_runs_agree
