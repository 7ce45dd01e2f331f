use Rattle.std.proofs.Common.{refl, ap, ◌∙◌, arith}
use Rattle.bit_slots.specs.Keys.{found, stage_at}
use Rattle.bit_slots.proofs.SlotChanges.{found_past, stood, updated_in}
use Rattle.bit_slots.proofs.SlotMarks.{updated_free, updated_live}
use Rattle.bit_slots.proofs.row.update.Goals as goal

pub returns-then-row-key-clause-stages : goal.returns-then-row-key-clause-stages
returns-then-row-key-clause-stages g c =
    (found_past _ c.args.key (omega arith), λ slot generation. refl)

pub returns-clause-stages : goal.returns-clause-stages
returns-clause-stages g c =
    updated_in _ c.args.key.slot c.index-row-key.result c.update.new.self (omega arith) _
    c.args.key refl c.update.result c.update.ensures

pub returns-clause-free : goal.returns-clause-free
returns-clause-free g c =
    updated_free _ c.args.key.slot c.index-row-key.result c.update.new.self (omega arith)
    c.args.key.generation _ c.update.result c.update.ensures

pub returns-clause-live : goal.returns-clause-live
returns-clause-live g c =
    updated_live _ c.args.key.slot c.index-row-key.result c.update.new.self (omega arith)
    c.args.key.generation _ c.update.result c.update.ensures

pub update-requires : goal.update-requires
update-requires g c value is =
    c.requires value (ap (λ o. found (stage_at o c.args.key.generation))
    (stood _ c.args.key.slot c.index-row-key.result c.index-row-key.result (omega arith)
    c.args.key.slot refl) ∙ is)
