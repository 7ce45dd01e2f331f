use Rattle.bittle.specs.BitPatterns.{bit_set}
use Rattle.bittle.specs.Rows.{row_set}
use Rattle.bittle_ext.proofs.CallerMembers.{unset_where_found}
use Rattle.bittle_ext_uses.proofs.one_line.free_block.Goals as goal

pub returns : goal.returns
returns c k low high =
    unset_where_found (row_set 4 64 (bit_set 64) c.args.taken.now) k
    (c.in_ok-first.ensures.run.1.1 k low high)
