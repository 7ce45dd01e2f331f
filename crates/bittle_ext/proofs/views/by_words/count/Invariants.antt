use Rattle.std.proofs.Common.{◌≡◌, ◌*◌}
use Rattle.bittle.specs.PlainSet.{members_below}
use Rattle.bittle_ext.proofs.views.by_words.count.Given as goal

abbrev pub invariant-loop-k : goal.invariant-loop-k
invariant-loop-k g l = l.count ≡ members_below (g.B.Shape.big l.bits) (l.k * g.B.Shape.width)
