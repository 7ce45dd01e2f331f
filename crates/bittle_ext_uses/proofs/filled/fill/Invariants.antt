use Rattle.std.proofs.Common.{◌≡◌, ◌+◌, ◌-◌}
use Rattle.bittle.specs.BitPatterns.{bit_set}
use Rattle.bittle.specs.PlainSet.{size}
use Rattle.bittle_ext_uses.proofs.filled.fill.Given as goal

abbrev pub invariant-loop-seat : goal.invariant-loop-seat
invariant-loop-seat l = size (bit_set 64 l.seats) ≡ size (bit_set 64 l.initial.seats) + l.filled

abbrev pub decreases-loop-seat : goal.decreases-loop-seat
decreases-loop-seat l = 64 - size (bit_set 64 l.seats)
