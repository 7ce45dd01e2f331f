use Rattle.std.proofs.Common.{sym, ◌∙◌}
use Rattle.bittle_bits.specs.Values.{set_in}
use Rattle.bittle.proofs.FirstDifference.{some_among}
use Rattle.bittle.proofs.set.compare.first_difference.Goals as goal

pub returns-then-is_some : goal.returns-then-is_some
returns-then-is_some g c =
    some_among (set_in g.A.Shape g.E.Endian c.args.left.now)
    (set_in g.B.Shape g.E.Endian c.args.right.now) _ c.first_decided_in_first_words-first.result
    (sym c.is_some.ensures ∙ c.if-is_some.true) c.first_decided_in_first_words-first.ensures.first
