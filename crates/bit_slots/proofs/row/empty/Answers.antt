use Rattle.std.proofs.Common.{is_some, set, refl, sym, ap, ◌∙◌, arith}
use Rattle.std.proofs.lemmas.List.{get_or-set_same, set-get_or}
use Rattle.bit_slots.specs.Keys.{stage_at, found}
use Rattle.bit_slots.specs.SlotSets.{is_free, is_live}
use Rattle.bit_slots.proofs.SlotChanges.{emptied_in, found_past, removed_past, stood}
use Rattle.bit_slots.proofs.SlotMarks.{emptied_free, freed, leaves, passes_as}
use Rattle.bit_slots.proofs.row.empty.Goals as goal

pub returns-then-row-key-clause-found : goal.returns-then-row-key-clause-found
returns-then-row-key-clause-found g c = found_past _ c.args.key (omega arith)

pub returns-then-row-key-clause-stages : goal.returns-then-row-key-clause-stages
returns-then-row-key-clause-stages g c = removed_past _ c.args.key (omega arith)

pub returns-in_err-value-clause-found : goal.returns-in_err-value-clause-found
returns-in_err-value-clause-found g c =
    rw c.from_residual.ensures (ap (λ o. found (stage_at o c.args.key.generation))
    (stood _ c.args.key.slot c.index-row-key.result c.empty.new.self (omega arith)
    c.args.key.slot refl)
    ∙ sym c.empty.ensures.found ∙ c.in_err-value.was)

pub returns-in_err-value-clause-live : goal.returns-in_err-value-clause-live
returns-in_err-value-clause-live g c =
    let row = c.args.row.now in
    rw c.from_residual.ensures (ap (set row c.args.key.slot)
    (c.empty.ensures.kept (ap is_some c.in_err-value.was))
    ∙ set-get_or row c.args.key.slot c.index-row-key.result)

pub returns-in_err-value-clause-stages : goal.returns-in_err-value-clause-stages
returns-in_err-value-clause-stages g c =
    emptied_in _ c.args.key.slot c.index-row-key.result c.empty.new.self (omega arith)
    c.args.key refl c.empty.ensures.stages

pub returns-clause-found : goal.returns-clause-found
returns-clause-found g c =
    ap (λ o. found (stage_at o c.args.key.generation))
    (stood _ c.args.key.slot c.index-row-key.result c.empty.new.self (omega arith)
    c.args.key.slot refl)
    ∙ sym c.in_ok-value.ensures.found

pub returns-clause-stages : goal.returns-clause-stages
returns-clause-stages g c =
    emptied_in _ c.args.key.slot c.index-row-key.result c.empty.new.self (omega arith)
    c.args.key refl c.empty.ensures.stages

pub returns-clause-live : goal.returns-clause-live
returns-clause-live g c =
    leaves is_live _ c.args.key.slot c.index-row-key.result c.empty.new.self (omega arith)
    c.in_ok-value.ensures.live

pub returns-clause-free : goal.returns-clause-free
returns-clause-free g c =
    freed _ c.args.key.slot c.index-row-key.result c.empty.new.self (omega arith)
    c.is_free.result
    (c.is_free.ensures ∙ ap is_free (get_or-set_same c.args.row.now c.args.key.slot
    c.empty.new.self c.index-row-key-2.result (omega arith)))
    c.in_ok-value.ensures.was_live

pub returns-clause-again : goal.returns-clause-again
returns-clause-again g c =
    passes_as is_free _ c.args.key.slot c.index-row-key.result c.empty.new.self (omega arith)
    ∙ c.in_ok-value.ensures.free

pub returns-clause-slots : goal.returns-clause-slots
returns-clause-slots g c = (
  emptied_free _ c.args.key.slot c.index-row-key.result c.empty.new.self (omega arith) _
      c.in_ok-value.ensures.free c.in_ok-value.ensures.was_live,
  returns-clause-live g c,
)
