use Rattle.bittle_ext.proofs.MaximalRuns.{runs_are_maximal}
use Rattle.bittle_ext.proofs.run_laws.runs_are_maximal.Goals as goal

pub returns : goal.returns
returns c = runs_are_maximal
