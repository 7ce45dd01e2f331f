use Rattle.std.proofs.Common.{◌≡◌, ◌+◌, ◌<◌, ℕ, true, arith}
use Rattle.bittle.specs.BitPatterns.{bit_set}
use Rattle.bittle.specs.PlainSet.{lacks, size, with_index}
use Rattle.bittle.proofs.CallerSets.{size_at_most}
use Rattle.bittle_ext.proofs.CallerMembers.{size_after_set_new, unset_where_found}
use Rattle.bittle_ext_uses.proofs.filled.fill.Goals as goal

-- a turn fills one seat
one_more : (before after seat : ℕ) → bit_set 64 after ≡ with_index (bit_set 64 before) seat →
    seat < 64 → lacks (bit_set 64 before) seat ≡ true →
    size (bit_set 64 after) ≡ size (bit_set 64 before) + 1
one_more before after seat is below free = size_after_set_new _ _ seat is below
    (unset_where_found (bit_set 64 before) seat free)

pub overflow_add-filled : goal.overflow_add-filled
overflow_add-filled c =
    omega (arith, c.loop-seat.invariant, size_at_most (bit_set 64 c.loop-seat.seats))

pub loop-seat-smaller : goal.loop-seat-smaller
loop-seat-smaller c =
    let one = one_more _ _ _ c.set_bit.ensures.set c.in-Some.ensures.least.1
    c.in-Some.ensures.least.2 in
    omega (arith, one, size_at_most (bit_set 64 c.set_bit.new.self))

pub loop-seat-preserved : goal.loop-seat-preserved
loop-seat-preserved c =
    let one = one_more _ _ _ c.set_bit.ensures.set c.in-Some.ensures.least.1
    c.in-Some.ensures.least.2 in
    omega (arith, one, c.loop-seat.invariant)
