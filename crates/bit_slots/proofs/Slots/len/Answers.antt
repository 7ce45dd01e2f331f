use Rattle.std.proofs.Common.{◌∙◌, arith}
use Rattle.bittle.specs.PlainSet.{PlainSet}
use Rattle.bittle.specs.Values.{set_in}
use Rattle.bit_slots.specs.SlotSets.{is_live}
use Rattle.bit_slots.proofs.SlotCounts.{count_at_most}
use Rattle.bit_slots.proofs.SlotMarks.{size_where}
use Rattle.bit_slots.proofs.Slots.len.Goals as goal

pub returns-clause-count : goal.returns-clause-count
returns-clause-count g c =
    let live : PlainSet = set_in g.B.Shape g.B.Order.Endian c.args.self.now.live in
    c.count_ones.ensures.in_own_order ∙ size_where is_live live _ _
    (g.met.B.FixedCapacity.one_capacity c.args.self.now.live) c.args.self.now.marks_live

pub returns-clause-at_most : goal.returns-clause-at_most
returns-clause-at_most g c = omega (
  arith,
  returns-clause-count g c,
  count_at_most is_live c.args.self.now.row.now g.B.Shape.type_capacity,
)
