use Rattle.std.proofs.Common.{◌<◌, arith}
use Rattle.std.proofs.lemmas.Bool.{MatchBool-at_true, MatchBool-at_false}
use Rattle.bit_slots.proofs.KeyHistories.{key_gone}
use Rattle.bittle.specs.PlainSet.{PlainSet}
use Rattle.bittle.specs.Values.{set_in}
use Rattle.bit_slots.specs.SlotSets.{is_free, is_live}
use Rattle.bit_slots.proofs.SlotCounts.{count_leaves, found_holds}
use Rattle.bit_slots.proofs.SlotMarks.{marks_same, marks_with, marks_without}
use Rattle.bit_slots.proofs.Slots.remove.Goals as goal

pub invariant_of-self-then-not-is_free : goal.invariant_of-self-then-not-is_free
invariant_of-self-then-not-is_free g c =
    let old = c.args.self.now in
    let free : PlainSet = set_in g.B.Shape g.B.Order.Endian old.free in
    let live : PlainSet = set_in g.B.Shape g.B.Order.Endian old.live in
    let out = c.in_ok-value.ensures in
    let in_live : c.args.key.slot < live.capacity =
    omega (arith, old.covers, g.met.B.FixedCapacity.one_capacity old.live, out.within) in
    record {
      fits = old.fits;
      covers = omega (arith, old.covers, out.same_length);
      marks_free = marks_same is_free free free _ _ old.marks_free
          (MatchBool-at_false _ _ c.if-not-is_free.true out.free);
      marks_live = marks_without is_live live _ _ _ old.marks_live c.args.key.slot in_live
          out.live c.clear_bit.ensures.set;
    }

pub invariant_of-self-2 : goal.invariant_of-self-2
invariant_of-self-2 g c =
    let old = c.args.self.now in
    let free : PlainSet = set_in g.B.Shape g.B.Order.Endian old.free in
    let live : PlainSet = set_in g.B.Shape g.B.Order.Endian old.live in
    let out = c.in_ok-value.ensures in
    let in_free : c.args.key.slot < free.capacity =
    omega (arith, old.covers, g.met.B.FixedCapacity.one_capacity old.free, out.within) in
    let in_live : c.args.key.slot < live.capacity =
    omega (arith, old.covers, g.met.B.FixedCapacity.one_capacity old.live, out.within) in
    record {
      fits = old.fits;
      covers = omega (arith, old.covers, out.same_length);
      marks_free = marks_with is_free free _ _ _ old.marks_free c.args.key.slot in_free
          (MatchBool-at_true _ _ c.if-not-is_free.false out.free) c.set_bit.ensures.set;
      marks_live = marks_without is_live live _ _ _ old.marks_live c.args.key.slot in_live
          out.live c.clear_bit.ensures.set;
    }

pub returns-clause-gone : goal.returns-clause-gone
returns-clause-gone g c = key_gone _ _ c.args.key c.in_ok-value.ensures.stages

pub returns-then-not-is_free-clause-count : goal.returns-then-not-is_free-clause-count
returns-then-not-is_free-clause-count g c =
    let out = c.in_ok-value.ensures in
    count_leaves is_live _ _ _ c.args.key.slot (omega (arith, c.args.self.now.covers, out.within))
    (found_holds c.args.self.now.row.now c.args.key.slot c.args.key.generation _ out.found)
    out.live

pub returns-clause-count : goal.returns-clause-count
returns-clause-count g c =
    let out = c.in_ok-value.ensures in
    count_leaves is_live _ _ _ c.args.key.slot (omega (arith, c.args.self.now.covers, out.within))
    (found_holds c.args.self.now.row.now c.args.key.slot c.args.key.generation _ out.found)
    out.live
