use Rattle.std.proofs.Common.{◌≡◌, ◌<◌, sym, ap, ◌∙◌, arith}
use Rattle.bittle.specs.PlainSet.{PlainSet}
use Rattle.bittle.specs.Values.{set_in}
use Rattle.bit_slots.specs.SlotSets.{is_free, is_slot}
use Rattle.bit_slots.proofs.SlotMarks.{marks_step, marks_all, slot_is}
use Rattle.bit_slots.proofs.row.free_slots.Goals as goal

pub loop-slot-preserved : goal.loop-slot-preserved
loop-slot-preserved g c =
    let set : PlainSet = set_in g.B.Shape g.B.Order.Endian c.loop-slot.set in
    let slot = c.loop-slot.slot in
    let within : slot < set.capacity =
    omega (arith, c.requires.covers, g.met.B.FixedCapacity.one_capacity c.loop-slot.set) in
    let passes : is_slot is_free c.args.row.now slot ≡ c.is_free.result =
    slot_is is_free c.args.row.now slot c.index-row-slot.result (omega arith)
    ∙ sym (ap is_free c.index-row-slot.is) ∙ sym c.is_free.ensures in
    marks_step is_free set c.args.row.now slot c.loop-slot.invariant _ c.is_free.result within
    passes
    c.assigned-set.ensures

pub returns : goal.returns
returns g c =
    let set : PlainSet = set_in g.B.Shape g.B.Order.Endian c.loop-slot.set in
    marks_all is_free set _ _ c.loop-slot.invariant (omega arith)
