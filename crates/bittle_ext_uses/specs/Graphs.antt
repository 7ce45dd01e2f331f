-- Graphs of 64 nodes. Row k has node m as a member if there is an edge from node k to node m.
use Rattle.std.specs.Prelude.{◌≡◌, ℕ, ◌<◌, true, List, fold, get_or}
use Rattle.bittle.specs.BitPatterns.{bit_set}
use Rattle.bittle.specs.PlainSet.{PlainSet, ascending, empty_set}
use Rattle.bittle.specs.SetOperations.{union_of}
use Rattle.bittle_ext.specs.SetRelations.{IsSubset}

-- a set of nodes is closed: it has `first` if that is a node, and if it has node k and there is an
-- edge from k to m, it has m
pub record IsClosed (rows : List ℕ) (first : ℕ) (nodes : PlainSet) : Type 0 where
  pub start : first < 64 → nodes.has first ≡ true
  pub edges : (k : ℕ) → k < 64 → nodes.has k ≡ true → IsSubset (bit_set 64 (get_or rows k 0)) nodes

-- the members of `all`, and the nodes that an edge leads to from `node`
abbrev pub with_targets : List ℕ → PlainSet → ℕ → PlainSet
with_targets rows all node = union_of all (bit_set 64 (get_or rows node 0))

-- the nodes that an edge leads to from any member of `nodes`
abbrev pub targets_of : List ℕ → PlainSet → PlainSet
targets_of rows nodes = fold (with_targets rows) (empty_set 64) (ascending nodes)
