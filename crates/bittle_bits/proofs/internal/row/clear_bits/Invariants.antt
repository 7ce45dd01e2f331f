use Rattle.std.proofs.Common.{◌≡◌, ℕ, ◌<◌, get_or, false}
use Rattle.bittle_bits.proofs.internal.row.clear_bits.Given as goal

abbrev pub invariant-loop-element : goal.invariant-loop-element
invariant-loop-element g l = (k : ℕ) (d : _) → k < l.element-index →
    (g.T.Shape.big (get_or l.elements k d)).has ≡ (λ _. false)
