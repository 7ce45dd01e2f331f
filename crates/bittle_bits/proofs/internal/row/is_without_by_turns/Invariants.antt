use Rattle.std.proofs.Common.{◌≡◌, ℕ, ◌*◌, ◌<◌, cond, get_or}
use Rattle.bittle_bits.specs.PlainSet.{size}
use Rattle.bittle_bits.proofs.internal.row.is_without_by_turns.Given as goal

abbrev pub invariant-loop-eight : goal.invariant-loop-eight
invariant-loop-eight g l = (k : ℕ) (d : _) → k < l.eight * 8 →
    size (g.T.Shape.big (get_or l.elements k d)) ≡ cond g.K.Kind.ONES 0 g.T.Shape.type_capacity
