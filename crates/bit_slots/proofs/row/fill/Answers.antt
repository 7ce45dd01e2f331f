use Rattle.std.proofs.Common.{refl, ap, ◌∙◌}
use Rattle.bit_slots.specs.Keys.{stage_at}
use Rattle.bit_slots.specs.SlotSets.{is_free, is_live}
use Rattle.bit_slots.proofs.SlotChanges.{filled_in, stood}
use Rattle.bit_slots.proofs.SlotMarks.{slot_passes, joins, leaves}
use Rattle.bit_slots.proofs.row.fill.Goals as goal

pub fill-generation-requires : goal.fill-generation-requires
fill-generation-requires g c =
    slot_passes is_free _ c.args.slot c.index-row-slot.result c.requires.free

pub returns-clause-stages : goal.returns-clause-stages
returns-clause-stages g c =
    filled_in _ c.args.slot c.index-row-slot.result c.fill-generation.new.self c.requires.within
    (record { slot = c.args.slot; generation = c.fill-generation.result }) c.args.value refl
    c.fill-generation.ensures.stages

pub returns-clause-free : goal.returns-clause-free
returns-clause-free g c =
    leaves is_free _ c.args.slot c.index-row-slot.result c.fill-generation.new.self
    c.requires.within c.fill-generation.ensures.free

pub returns-clause-live : goal.returns-clause-live
returns-clause-live g c =
    joins is_live _ c.args.slot c.index-row-slot.result c.fill-generation.new.self
    c.requires.within c.fill-generation.ensures.live

pub returns-clause-generation : goal.returns-clause-generation
returns-clause-generation g c k =
    ap (λ o. stage_at o k) (stood _ c.args.slot c.index-row-slot.result c.fill-generation.new.self
    c.requires.within c.args.slot refl)
    ∙ c.fill-generation.ensures.generation k
