use Rattle.std.proofs.Common.{ap, ◌∙◌, arith}
use Rattle.bittle.specs.PlainSet.{size}
use Rattle.bittle.specs.Values.{set_in}
use Rattle.bittle.proofs.CallerChanges.{size_with_span}
use Rattle.bittle_ext.proofs.CallerSpans.{has_after_set_span}
use Rattle.bittle_ext.proofs.RankFacts.{below_stays}
use Rattle.bittle_ext.proofs.bits_mut_ext.BitsMutExt.set_range.Goals as goal

pub returns-clause-count : goal.returns-clause-count
returns-clause-count g c =
    ap size c.set_range_in.ensures.set
    ∙ size_with_span (set_in g.Self.Shape g.Self.Order.Endian c.args.self.now) c.args.from c.args.to
    c.requires.ordered c.requires.within

pub returns-clause-all : goal.returns-clause-all
returns-clause-all g c k low high =
    has_after_set_span (set_in g.Self.Shape g.Self.Order.Endian c.args.self.now) _
    c.args.from c.args.to k
    c.set_range_in.ensures.set low high

pub returns-clause-grows : goal.returns-clause-grows
returns-clause-grows g c none =
    let before = set_in g.Self.Shape g.Self.Order.Endian c.args.self.now in
    let same = below_stays before c.args.from c.args.to c.requires.ordered none in
    omega (arith, same, returns-clause-count g c)
