use Rattle.bittle.specs.PlainSet.{PlainSet}
use Rattle.bittle.specs.Values.{set_in}
use Rattle.bit_slots.specs.SlotSets.{is_live}
use Rattle.bit_slots.proofs.SlotCounts.{members_within}
use Rattle.bit_slots.proofs.SlotMarks.{size_where}
use Rattle.bit_slots.proofs.Slots.live.Goals as goal

pub returns-clause-within : goal.returns-clause-within
returns-clause-within g c = members_within is_live _ _ c.args.self.now.marks_live

pub returns-clause-count : goal.returns-clause-count
returns-clause-count g c =
    let live : PlainSet = set_in g.B.Shape g.B.Order.Endian c.args.self.now.live in
    size_where is_live live _ _ (g.met.B.FixedCapacity.one_capacity c.args.self.now.live)
    c.args.self.now.marks_live
