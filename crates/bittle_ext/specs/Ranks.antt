-- The rank of a member: how many members are below it.
use Rattle.std.specs.Prelude.{◌≡◌, ℕ, ◌+◌, ◌*◌, ◌<◌, ◌≤◌, true, Some, slice_get}
use Rattle.bittle.specs.PlainSet.{PlainSet, ascending, members_below, size}

-- no member has this rank
abbrev pub HasNoRank : PlainSet → ℕ → Type 0
HasNoRank s rank = size s ≤ rank

-- the member with the rank `rank` is in word k, where a word has w bits, and `rest` members of that
-- word are below the member
abbrev pub IsInWord : PlainSet → ℕ → ℕ → ℕ → ℕ → Type 0
IsInWord s w rank k rest = (k * w < s.capacity) × (members_below s (k * w) + rest ≡ rank)
    × (rank < members_below s ((k + 1) * w))

-- each member is the item at its rank in the increasing list, and the rank of an item is its place
-- in that list
pub record RankUndoesSelect (s : PlainSet) : Type 0 where
  pub member_at_rank : (i : ℕ) → i < s.capacity → s.has i ≡ true →
      slice_get (ascending s) (members_below s i) ≡ Some i
  pub rank_of_item : (r i : ℕ) → slice_get (ascending s) r ≡ Some i → members_below s i ≡ r

-- rank and select undo each other in every set
abbrev pub RanksUndoSelection : Type 0
RanksUndoSelection = (s : PlainSet) → RankUndoesSelect s
