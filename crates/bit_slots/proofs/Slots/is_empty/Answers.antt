use Rattle.std.proofs.Common.{◌≡◌, ℕ, sym, ap, ◌∙◌, arith}
use Rattle.std.specs.Prelude.{◌==◌}
use Rattle.std.proofs.lemmas.Bool.{eqb-true}
use Rattle.bittle.specs.PlainSet.{PlainSet, size}
use Rattle.bittle.specs.Values.{set_in}
use Rattle.bittle.proofs.CallerSets.{size_none}
use Rattle.bit_slots.specs.SlotSets.{is_live}
use Rattle.bit_slots.proofs.SlotCounts.{lacks_found}
use Rattle.bit_slots.proofs.SlotMarks.{none_passes, size_where}
use Rattle.bit_slots.proofs.Slots.is_empty.Goals as goal

pub returns-clause-count : goal.returns-clause-count
returns-clause-count g c =
    let live : PlainSet = set_in g.B.Shape g.B.Order.Endian c.args.self.now.live in
    c.all_zeros.ensures.in_own_order
    ∙ ap (λ (n : ℕ). n == 0) (size_where is_live live _ _
    (g.met.B.FixedCapacity.one_capacity c.args.self.now.live) c.args.self.now.marks_live)

pub returns-clause-none : goal.returns-clause-none
returns-clause-none g c is key =
    let live : PlainSet = set_in g.B.Shape g.B.Order.Endian c.args.self.now.live in
    let row = c.args.self.now.row.now in
    let zero : size live ≡ 0 = eqb-true (size live) 0
    (sym c.all_zeros.ensures.in_own_order ∙ is) in
    lacks_found row key.slot key.generation
    (none_passes is_live live live row row c.args.self.now.marks_live live.capacity
    (omega (arith, c.args.self.now.covers, g.met.B.FixedCapacity.one_capacity c.args.self.now.live))
    (size_none live zero) key.slot)
