use Rattle.bittle.specs.BitPatterns.{bit_set}
use Rattle.bittle.specs.PlainSet.{size}
use Rattle.bittle.specs.Rows.{row_set}
use Rattle.bittle_ext_uses.proofs.pops.last_taken_out.Given as goal

abbrev pub decreases-loop-index : goal.decreases-loop-index
decreases-loop-index l = size (row_set 4 64 (bit_set 64) l.work)
