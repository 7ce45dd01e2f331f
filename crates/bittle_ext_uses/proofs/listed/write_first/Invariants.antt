use Rattle.std.proofs.Common.{◌≡◌, ◌<◌, ◌≤◌, ℕ, List, drop, get_or, length}
use Rattle.bittle_ext_uses.proofs.listed.write_first.Given as goal

-- the first `count` items are written into the room, and the others are left
pub record HasWritten (items room left : List ℕ) (count : ℕ) : Type 0 where
  pub within_room : count ≤ length room
  pub within_items : count ≤ length items
  pub others : drop count items ≡ left
  pub written : (k : ℕ) → k < count → get_or room k 0 ≡ get_or items k 0

abbrev pub invariant-loop-index : goal.invariant-loop-index
invariant-loop-index l = HasWritten l.initial.index-iterator.remaining l.room
    l.index-iterator.remaining l.count
