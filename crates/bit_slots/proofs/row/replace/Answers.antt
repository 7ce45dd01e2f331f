use Rattle.std.proofs.Common.{refl, arith}
use Rattle.bit_slots.proofs.SlotChanges.{replaced_in, replaced_past}
use Rattle.bit_slots.proofs.SlotMarks.{replaced_free, replaced_live}
use Rattle.bit_slots.proofs.row.replace.Goals as goal

pub returns-then-row-key-clause-stages : goal.returns-then-row-key-clause-stages
returns-then-row-key-clause-stages g c = replaced_past _ c.args.key (omega arith) c.args.value

pub returns-clause-stages : goal.returns-clause-stages
returns-clause-stages g c =
    replaced_in _ c.args.key.slot c.index-row-key.result c.replace.new.self (omega arith)
    c.args.key c.args.value refl c.replace.result c.replace.ensures

pub returns-clause-free : goal.returns-clause-free
returns-clause-free g c =
    replaced_free _ c.args.key.slot c.index-row-key.result c.replace.new.self (omega arith)
    c.args.key.generation c.args.value c.replace.result c.replace.ensures

pub returns-clause-live : goal.returns-clause-live
returns-clause-live g c =
    replaced_live _ c.args.key.slot c.index-row-key.result c.replace.new.self (omega arith)
    c.args.key.generation c.args.value c.replace.result c.replace.ensures
