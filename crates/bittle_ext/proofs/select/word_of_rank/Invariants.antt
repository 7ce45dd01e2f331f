use Rattle.std.proofs.Common.{◌≡◌, ◌+◌, ◌*◌}
use Rattle.bittle.specs.Orders.{read_in}
use Rattle.bittle.specs.PlainSet.{members_below}
use Rattle.bittle_ext.proofs.select.word_of_rank.Given as goal

abbrev pub invariant-loop-k : goal.invariant-loop-k
invariant-loop-k g l =
    let w = g.B.Shape.width in
    let ours = read_in g.E.Endian.mirrored w (g.B.Shape.big l.bits) in
    members_below ours (l.k * w) + l.rest ≡ l.rank
