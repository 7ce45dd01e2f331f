use Rattle.std.proofs.Common.{◌≡◌, ◌+◌, length}
use Rattle.std.specs.List.{flat_map, fold}
use Rattle.std.specs.Hash as fed
use Rattle.bittle.proofs.set.hash.feed_all.Given as goal

-- once the items that are left are fed, the hasher got all items
abbrev pub invariant-loop-index : goal.invariant-loop-index
invariant-loop-index g l =
    let all = (g.I.Counted.walk l.fn.indexes).remaining in
    let rest = (g.I.Counted.walk l.index-iterator).remaining in
    record {
      count : l.count + length rest ≡ length all;
      fed : fold g.H.Hasher.write l.initial.state (flat_map fed.u32 all)
          ≡ fold g.H.Hasher.write l.state (flat_map fed.u32 rest);
    }
