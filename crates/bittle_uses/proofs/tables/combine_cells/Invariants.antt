use Rattle.std.proofs.Common.{◌≡◌, ◌/◌, ◌%◌, []}
use Rattle.std.specs.Int.Bits.{bit_xor}
use Rattle.std.specs.List.{fold, slice_index_or}
use Rattle.std.specs.Prelude.{slice_index}
use Rattle.bittle_uses.proofs.tables.combine_cells.Given as goal

abbrev pub invariant-loop-cell : goal.invariant-loop-cell
invariant-loop-cell l =
    let combined = fold (λ all i. bit_xor all
    (slice_index (slice_index_or l.cells (i / 8) []) (i % 8))) in
    combined l.all l.cell-iterator.remaining ≡ combined 0 l.initial.cell-iterator.remaining
