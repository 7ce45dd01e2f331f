use Rattle.bittle_uses.proofs.Lasts.{KeepsLastEntry}
use Rattle.bittle_uses.proofs.shared_slices.entry_at_greatest.Given as goal

abbrev pub invariant-loop-index : goal.invariant-loop-index
invariant-loop-index l =
    KeepsLastEntry l.row l.last l.index-iterator.remaining l.initial.index-iterator.remaining
