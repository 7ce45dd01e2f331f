use Rattle.std.proofs.Common.{◌≡◌, ℕ, ◌<◌, cond, get_or}
use Rattle.bittle_bits.specs.PlainSet.{size}
use Rattle.bittle_bits.proofs.internal.row.rest_is_without.Given as goal

abbrev pub invariant-loop-at : goal.invariant-loop-at
invariant-loop-at g l = (k : ℕ) (d : _) → k < l.at →
    size (g.T.Shape.big (get_or l.elements k d)) ≡ cond g.K.Kind.ONES 0 g.T.Shape.type_capacity
