use Rattle.std.proofs.Common.{◌≡◌, ℕ, false, get_or, ◌<◌, ◌||◌, ◌==◌}
use Rattle.std.specs.List.{list_any}
use Rattle.bittle_uses.proofs.tables.mark_members.Given as goal

abbrev pub invariant-loop-index : goal.invariant-loop-index
invariant-loop-index l = (k : ℕ) → k < 64 →
    (get_or l.row k false || list_any (λ i. i == k) l.index-iterator.remaining)
    ≡ (get_or l.initial.row k false || list_any (λ i. i == k) l.initial.index-iterator.remaining)
