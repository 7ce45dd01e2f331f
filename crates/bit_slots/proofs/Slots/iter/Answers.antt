use Rattle.std.proofs.Common.{◌≡◌, ◌+◌, ap, slice_get, arith}
use Rattle.bit_slots.proofs.RowEntries.{entries_are, entries_at_most, entries_have, entry_within}
use Rattle.bit_slots.proofs.RowEntries.{slots_rise}
use Rattle.bit_slots.proofs.SlotCounts.{entries_count}
use Rattle.bit_slots.proofs.Slots.iter.Goals as goal

pub returns-clause-found : goal.returns-clause-found
returns-clause-found g c =
    let row = c.args.self.now.row.now in
    entries_are row row 0 (λ k. let same : 0 + k ≡ k = omega arith in ap (slice_get row) same)

pub returns-clause-order : goal.returns-clause-order
returns-clause-order g c = slots_rise c.args.self.now.row.now 0

pub returns-clause-all : goal.returns-clause-all
returns-clause-all g c key value is =
    entries_have c.args.self.now.row.now key value is

pub returns-clause-within : goal.returns-clause-within
returns-clause-within g c k d h =
    entry_within c.args.self.now.row.now _ (returns-clause-found g c k d h)

pub returns-clause-at_most : goal.returns-clause-at_most
returns-clause-at_most g c = entries_at_most c.args.self.now.row.now 0

pub returns-clause-count : goal.returns-clause-count
returns-clause-count g c =
    entries_count c.args.self.now.row.now 0 _ c.args.self.now.covers
