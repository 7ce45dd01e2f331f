use Rattle.bittle.specs.Values.{set_in}
use Rattle.bit_slots.specs.SlotSets.{is_live, MarksBelow}
use Rattle.bit_slots.proofs.row.live_slots.Given as goal

abbrev pub invariant-loop-slot : goal.invariant-loop-slot
invariant-loop-slot g l =
    MarksBelow is_live (set_in g.B.Shape g.B.Order.Endian l.set) l.row l.slot
