use Rattle.bittle.specs.Values.{set_in}
use Rattle.bit_slots.specs.SlotSets.{is_free, MarksBelow}
use Rattle.bit_slots.proofs.row.free_slots.Given as goal

abbrev pub invariant-loop-slot : goal.invariant-loop-slot
invariant-loop-slot g l =
    MarksBelow is_free (set_in g.B.Shape g.B.Order.Endian l.set) l.row l.slot
