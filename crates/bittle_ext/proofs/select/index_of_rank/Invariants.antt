use Rattle.std.proofs.Common.{◌≡◌, ◌+◌, ◌*◌, ◌<◌, ◌≤◌}
use Rattle.bittle.specs.Orders.{read_in}
use Rattle.bittle.specs.PlainSet.{members_below}
use Rattle.bittle_ext.specs.Numbers.{HasBitsOf}
use Rattle.bittle_ext.proofs.select.index_of_rank.Given as goal

abbrev pub invariant-loop-span : goal.invariant-loop-span
invariant-loop-span g l =
    let w = g.B.Shape.width in
    let ours = read_in g.E.Endian.mirrored w (g.B.Shape.big l.bits) in
    let start = l.k * w in
    record {
      some : 0 < l.span;
      within : l.at + l.span ≤ w;
      left : members_below ours (start + l.at) + l.left ≡ members_below ours start + l.rest;
      to : members_below ours start + l.rest < members_below ours (start + l.at + l.span);
      bits : HasBitsOf ours (start + l.at) l.span (g.B.LeafWord.Word.pattern l.word);
    }

abbrev pub decreases-loop-span : goal.decreases-loop-span
decreases-loop-span g l = l.span
