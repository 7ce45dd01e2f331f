use Rattle.std.proofs.Common.{◌≡◌, sym}
use Rattle.bit_slots.proofs.SlotCounts.{entries_count}
use Rattle.bit_slots.proofs.Slots.over.Goals as goal

pub returns-clause-count : goal.returns-clause-count
returns-clause-count g c = sym (entries_count c.args.row.now 0 _ c.requires.covers)
