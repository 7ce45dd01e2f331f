use Rattle.bittle_ext.proofs.RunFacts.{first_run_of_same}
use Rattle.bittle_ext_uses.proofs.one_line.free_in_both_maps.Goals as goal

pub returns : goal.returns
returns c = first_run_of_same _ _ _ _ _ c.or.ensures.set c.first_zero_run.ensures.run
