use Rattle.std.proofs.Common.{◌≡◌, map, Some}
use Rattle.std.specs.List.{last_or}
use Rattle.std.specs.Prelude.{slice_index}
use Rattle.bittle_uses.proofs.tables.entry_at_chosen.Given as goal

abbrev pub invariant-loop-index : goal.invariant-loop-index
invariant-loop-index l =
    Some l.last ≡ last_or (Some 0) (map (λ i. slice_index l.row i) l.yielded)
