use Rattle.std.proofs.Common.{refl, subst}
use Rattle.bit_slots.specs.Keys.{IsExchangedWith}
use Rattle.bit_slots.specs.declared.slot.Slot.TheVariants.{Live}
use Rattle.bit_slots.proofs.SlotChanges.{value_changed}
use Rattle.bit_slots.proofs.slot.Slot.update.Goals as goal

pub returns-in-Live : goal.returns-in-Live
returns-in-Live g c =
    let current = c.in-Live.current in
    let back = c.in-Live.value in
    let value = c.change.new.arg2 in (
      _,
      _,
      record { shown = _; shows = refl; left = _; met = c.change.ensures; leaves = refl },
      rw c.in-Live.is (subst
          (λ n. IsExchangedWith (Live current back) n value back (Live current value))
          c.if-current-generation.true (value_changed current value back)),
    )
