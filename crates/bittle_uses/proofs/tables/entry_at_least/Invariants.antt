use Rattle.std.proofs.Common.{◌≡◌}
use Rattle.std.specs.Iterator.Adapters.{rev_source}
use Rattle.std.specs.Prelude.{option_map, slice_get, slice_index, unwrap_or}
use Rattle.bittle_uses.proofs.tables.entry_at_least.Given as goal

abbrev pub invariant-loop-index : goal.invariant-loop-index
invariant-loop-index l =
    let entry = option_map (λ i. slice_index l.row i) in
    unwrap_or (entry (slice_get (rev_source l.index-iterator).remaining 0)) l.last
    ≡ unwrap_or (entry (slice_get (rev_source l.initial.index-iterator).remaining 0)) 0
