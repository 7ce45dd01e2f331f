use Rattle.std.proofs.Common.{◌≡◌, length, false, arith}
use Rattle.bit_slots.specs.SlotSets.{is_free, is_slot}
use Rattle.bit_uses.proofs.slots.insert_thrice.Goals as goal

-- one of the two slots is still free after the first call
pub returns-in_default-insert : goal.returns-in_default-insert
returns-in_default-insert c =
    let row = c.insert.new.self.row.now in
    let size : length row ≡ 2 = grind arith in
    let first : is_slot is_free row 0 ≡ false =
    c.in_default-insert.ensures.full 0 (omega (arith, size)) in
    let second : is_slot is_free row 1 ≡ false =
    c.in_default-insert.ensures.full 1 (omega (arith, size)) in
    grind (arith, first, second)
