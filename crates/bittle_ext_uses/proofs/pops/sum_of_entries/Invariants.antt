use Rattle.bittle.specs.BitPatterns.{bit_set}
use Rattle.bittle.specs.PlainSet.{size}
use Rattle.bittle_ext_uses.proofs.pops.sum_of_entries.Given as goal

abbrev pub decreases-loop-index : goal.decreases-loop-index
decreases-loop-index l = size (bit_set 64 l.work)
