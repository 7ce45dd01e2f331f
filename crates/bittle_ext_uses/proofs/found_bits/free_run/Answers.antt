use Rattle.bittle_lemmas.proofs.FoundNumbers.{unset_in_run}
use Rattle.bittle_ext_uses.proofs.found_bits.free_run.Goals as goal

pub returns-clause-free : goal.returns-clause-free
returns-clause-free c k begun ends =
    unset_in_run _ 1 4095 1 c.args.length _ k c.in_ok-first.ensures.run begun ends
