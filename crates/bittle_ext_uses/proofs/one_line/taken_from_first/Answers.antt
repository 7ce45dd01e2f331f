use Rattle.std.proofs.Common.{arith}
use Rattle.bittle.specs.BitPatterns.{bit_set}
use Rattle.bittle_lemmas.proofs.FoundNumbers.{set_below_found, set_if_none_unset}
use Rattle.bittle_ext_uses.proofs.one_line.taken_from_first.Goals as goal

pub returns-in-Some-clause-taken : goal.returns-in-Some-clause-taken
returns-in-Some-clause-taken c k below = set_below_found (bit_set 64 c.args.taken) 0 64 _ k
    c.in-Some.ensures.least (omega arith) (omega arith) below

pub returns-in-None-clause-taken : goal.returns-in-None-clause-taken
returns-in-None-clause-taken c k below = set_if_none_unset (bit_set 64 c.args.taken) 0 64 k
    c.in-None.ensures.least (omega arith) (omega arith) below
