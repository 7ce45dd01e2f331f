use Rattle.std.proofs.Common.{◌≡◌}
use Rattle.std.specs.List.{fold}
use Rattle.bittle.specs.BitPatterns.{bit_set}
use Rattle.bittle.specs.PlainSet.{empty_set}
use Rattle.bittle_ext_uses.specs.Graphs.{with_targets}
use Rattle.bittle_ext_uses.proofs.graphs.targets.Given as goal

abbrev pub invariant-loop-node : goal.invariant-loop-node
invariant-loop-node l =
    fold (with_targets l.rows) (bit_set 64 l.all) l.node-iterator.remaining
    ≡ fold (with_targets l.rows) (empty_set 64) l.initial.node-iterator.remaining
