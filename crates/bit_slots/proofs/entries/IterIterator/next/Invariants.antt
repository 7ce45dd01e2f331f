use Rattle.std.proofs.Common.{◌≡◌, ◌+◌, ◌<◌, length}
use Rattle.bit_slots.specs.Entries.{entries_from}
use Rattle.bit_slots.proofs.entries.IterIterator.next.Given as goal

-- only slots without a value were passed over
abbrev pub invariant-loop-first : goal.invariant-loop-first
invariant-loop-first g l =
    (l.self-inside.slot + length l.self-inside.slots.now < 4294967296)
    × (entries_from l.self-inside.slot l.self-inside.slots.now ≡ l.fn.self)

abbrev pub decreases-loop-first : goal.decreases-loop-first
decreases-loop-first g l = length l.self-inside.slots.now
