use Rattle.std.proofs.Common.{arith}
use Rattle.bittle.specs.BitPatterns.{bit_set}
use Rattle.bittle_lemmas.proofs.FoundNumbers.{set_below_found}
use Rattle.bittle_ext_uses.proofs.one_line.free_hour.Goals as goal

pub returns-clause-before : goal.returns-clause-before
returns-clause-before c k low = set_below_found (bit_set 32 c.args.taken) 0 32 c.in_ok-hour.hour k
    c.in_ok-hour.ensures.least (omega arith) (omega arith) low
