use Rattle.std.proofs.Common.{length}
use Rattle.bittle.specs.BitPatterns.{bit_set}
use Rattle.bittle.specs.PlainSet.{size}
use Rattle.bittle.specs.Rows.{row_set}
use Rattle.bittle_ext_uses.proofs.pops.Work.finish.Given as goal

abbrev pub decreases-loop-task : goal.decreases-loop-task
decreases-loop-task l = size (row_set (length l.self.tasks.bits.now) 64 (bit_set 64)
    l.self.tasks.bits.now)
