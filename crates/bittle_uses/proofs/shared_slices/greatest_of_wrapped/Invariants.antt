use Rattle.bittle_uses.proofs.Lasts.{KeepsLast}
use Rattle.bittle_uses.proofs.shared_slices.greatest_of_wrapped.Given as goal

abbrev pub invariant-loop-index : goal.invariant-loop-index
invariant-loop-index l = KeepsLast l.last l.index-iterator.remaining
    l.initial.index-iterator.remaining
