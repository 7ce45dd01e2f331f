use Rattle.std.proofs.Common.{◌≡◌, ◌<◌, ℕ, List, true, false, get_or}
use Rattle.bittle.specs.BitPatterns.{bit_set}
use Rattle.bittle.specs.PlainSet.{PlainSet, size}
use Rattle.bittle_ext.specs.SetRelations.{IsSubset}
use Rattle.bittle_ext_uses.specs.Graphs.{IsClosed}
use Rattle.bittle_ext_uses.proofs.graphs.reachable.Given as goal

-- The queue has the start, if that is a node, and each node that an edge leads to from a taken
-- node. A node is taken if it is not in `left`. Each closed set has all nodes of the queue, and all
-- taken nodes.
pub record IsSearched (rows : List ℕ) (first : ℕ) (left queue : PlainSet) : Type 0 where
  pub begun : first < 64 → queue.has first ≡ true
  pub followed : (k : ℕ) → k < 64 → left.has k ≡ false →
      IsSubset (bit_set 64 (get_or rows k 0)) queue
  pub queue_needed : (nodes : PlainSet) → IsClosed rows first nodes → IsSubset queue nodes
  pub taken_needed : (nodes : PlainSet) → IsClosed rows first nodes →
      (k : ℕ) → k < 64 → left.has k ≡ false → nodes.has k ≡ true

abbrev pub invariant-loop-node : goal.invariant-loop-node
invariant-loop-node l = IsSearched l.rows l.start (bit_set 64 l.left) (bit_set 64 l.queue)

abbrev pub decreases-loop-node : goal.decreases-loop-node
decreases-loop-node l = size (bit_set 64 l.left)
