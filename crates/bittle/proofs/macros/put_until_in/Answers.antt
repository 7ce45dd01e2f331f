use Rattle.std.proofs.Common.{sym, arith}
use Rattle.bittle.proofs.RangeSets.{with_wrapped_range-none}
use Rattle.bittle.proofs.macros.put_until_in.Goals as goal

pub returns-else-from-to-clause-set : goal.returns-else-from-to-clause-set
returns-else-from-to-clause-set g c =
    sym (with_wrapped_range-none _ c.args.from c.args.to (omega arith))
