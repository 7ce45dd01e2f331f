use Rattle.std.proofs.Common.{◌≡◌, ◌<◌, true, sym, ◌∙◌, arith}
use Rattle.bit_slots.proofs.KeyHistories.{key_holds}
use Rattle.bittle.specs.PlainSet.{PlainSet}
use Rattle.bittle.specs.Values.{set_in}
use Rattle.bit_slots.specs.SlotSets.{is_free, is_live, is_slot}
use Rattle.bit_slots.proofs.SlotCounts.{count_at_most, count_joins, free_lacks}
use Rattle.bit_slots.proofs.SlotMarks.{slot_within, marks_with, marks_without}
use Rattle.bit_slots.proofs.Slots.insert.Given.{Over}
use Rattle.bit_slots.proofs.Slots.insert.Goals.{In-Some}
use Rattle.bit_slots.proofs.Slots.insert.Goals as goal

-- the slot that was found is free
was_free : (g : Over) (c : In-Some g) →
    is_slot is_free c.args.self.now.row.now c.in-Some.slot ≡ true
was_free g c = sym (c.args.self.now.marks_free c.in-Some.slot) ∙ c.in-Some.ensures.2

pub fill-key-requires-clause-within : goal.fill-key-requires-clause-within
fill-key-requires-clause-within g c = slot_within is_free _ c.in-Some.slot
    (was_free g (goal.at.fill-key-requires-clause-within g c).In-Some)

pub invariant_of-self : goal.invariant_of-self
invariant_of-self g c =
    let old = c.args.self.now in
    let slot = c.in-Some.slot in
    let free : PlainSet = set_in g.B.Shape g.B.Order.Endian old.free in
    let live : PlainSet = set_in g.B.Shape g.B.Order.Endian old.live in
    let bits = c.bits.ensures.value old.fits in
    let in_free : slot < free.capacity =
    omega (arith, bits, g.met.B.FixedCapacity.one_capacity old.free, c.in-Some.ensures.1) in
    let in_live : slot < live.capacity =
    omega (arith, bits, g.met.B.FixedCapacity.one_capacity old.live, c.in-Some.ensures.1) in
    record {
      fits = old.fits;
      covers = omega (arith, old.covers, c.fill-key.ensures.same_length);
      marks_free = marks_without is_free free _ _ _ old.marks_free slot in_free
          c.fill-key.ensures.free c.clear_bit.ensures.set;
      marks_live = marks_with is_live live _ _ _ old.marks_live slot in_live
          c.fill-key.ensures.live c.set_bit.ensures.set;
    }

pub returns-clause-holds : goal.returns-clause-holds
returns-clause-holds g c = key_holds _ _ _ c.fill-key.result c.fill-key.ensures.stages

pub returns-clause-count : goal.returns-clause-count
returns-clause-count g c =
    let old = c.args.self.now in
    let slot = c.in-Some.slot in
    count_joins is_live _ _ _ slot
    (omega (arith, c.bits.ensures.value old.fits, c.in-Some.ensures.1))
    (free_lacks old.row.now slot (was_free g (goal.at.returns-clause-count g c).In-Some))
    c.fill-key.ensures.live

pub returns-clause-had_room : goal.returns-clause-had_room
returns-clause-had_room g c = omega (
  arith,
  returns-clause-count g c,
  count_at_most is_live c.fill-key.new.row g.B.Shape.type_capacity,
  c.fill-key.ensures.same_length,
)
