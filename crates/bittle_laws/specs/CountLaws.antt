-- The numbers below the capacity: how many are members, how many are not, and the lists of both.
use Rattle.std.specs.Prelude.{◌≡◌, ℕ, ◌+◌, ◌<◌, ◌==◌, not, length}
use Rattle.std.specs.List.{list_any}
use Rattle.bittle.specs.PlainSet.{PlainSet, size, complement, ascending}

-- The count of the members and the count of the other numbers below the capacity add up to the
-- capacity. Each count is the length of the list of these numbers. Each number below the capacity
-- is in just one of the two lists.
pub record IsPartitioned (s : PlainSet) : Type 0 where
  pub total : size s + size (complement s) ≡ s.capacity
  pub ones_listed : length (ascending s) ≡ size s
  pub zeros_listed : length (ascending (complement s)) ≡ size (complement s)
  pub in_one_list : (k : ℕ) → k < s.capacity →
      list_any (λ i. i == k) (ascending (complement s)) ≡ not (list_any (λ i. i == k) (ascending s))

-- every set is partitioned in this way
abbrev pub OnesAndZerosPartition : Type 0
OnesAndZerosPartition = (s : PlainSet) → IsPartitioned s
