-- Laws of the list of a set's members, in increasing order.
use Rattle.std.specs.Prelude.{◌≡◌, ℕ, ◌<◌, ◌==◌, length, slice_index}
use Rattle.std.specs.List.{list_any}
use Rattle.bittle.specs.PlainSet.{PlainSet, ascending}

-- Each item is less than each later item and less than the capacity. A number below the capacity is
-- an item exactly if it is a member.
pub record IsListed (s : PlainSet) : Type 0 where
  pub rises : (j k : ℕ) → j < k → k < length (ascending s) →
      slice_index (ascending s) j < slice_index (ascending s) k
  pub below : (k : ℕ) → k < length (ascending s) → slice_index (ascending s) k < s.capacity
  pub members : (i : ℕ) → i < s.capacity → list_any (λ k. k == i) (ascending s) ≡ s.has i

-- `IsListed` holds of every set
abbrev pub ListsIncrease : Type 0
ListsIncrease = (s : PlainSet) → IsListed s
