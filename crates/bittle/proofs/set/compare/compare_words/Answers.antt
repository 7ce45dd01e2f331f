use Rattle.bittle.proofs.FirstDifference.{before, after}
use Rattle.bittle.proofs.set.compare.compare_words.Goals as goal
use Rattle.bittle_bits.specs.Values.{set_in}

pub returns-in-None : goal.returns-in-None
returns-in-None g c = c.in-None.ensures

pub returns-then-is_left-goes_on : goal.returns-then-is_left-goes_on
returns-then-is_left-goes_on g c = before
    (set_in g.A.Shape g.E.Endian c.args.left.now) (set_in g.B.Shape g.E.Endian c.args.right.now)
    c.in-Some.index c.in-Some.ensures c.has-is_left.result c.other_goes_on-goes_on.result
    c.has-is_left.ensures c.other_goes_on-goes_on.ensures c.if-is_left-goes_on.true

pub returns-else-is_left-goes_on : goal.returns-else-is_left-goes_on
returns-else-is_left-goes_on g c = after
    (set_in g.A.Shape g.E.Endian c.args.left.now) (set_in g.B.Shape g.E.Endian c.args.right.now)
    c.in-Some.index c.in-Some.ensures c.has-is_left.result c.other_goes_on-goes_on.result
    c.has-is_left.ensures c.other_goes_on-goes_on.ensures c.if-is_left-goes_on.false
