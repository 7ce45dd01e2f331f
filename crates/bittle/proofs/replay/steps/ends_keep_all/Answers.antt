use Rattle.bittle.proofs.ListEnds.{keeps_all}
use Rattle.bittle.proofs.replay.steps.ends_keep_all.Goals as goal

pub returns : goal.returns
returns c = keeps_all
