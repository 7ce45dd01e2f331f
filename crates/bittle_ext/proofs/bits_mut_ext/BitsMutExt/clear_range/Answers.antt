use Rattle.std.proofs.Common.{ap, ◌∙◌, arith}
use Rattle.bittle.specs.PlainSet.{size}
use Rattle.bittle.specs.Values.{set_in}
use Rattle.bittle.proofs.CallerChanges.{size_without_span}
use Rattle.bittle_bits.proofs.MembersBelow.{below_between}
use Rattle.bittle_ext.proofs.CallerSpans.{has_after_clear_span}
use Rattle.bittle_ext.proofs.FoundSizes.{count_of_all}
use Rattle.bittle_ext.proofs.bits_mut_ext.BitsMutExt.clear_range.Goals as goal

pub returns-clause-count : goal.returns-clause-count
returns-clause-count g c =
    ap size c.clear_range_in.ensures.set
    ∙ size_without_span (set_in g.Self.Shape g.Self.Order.Endian c.args.self.now)
    c.args.from c.args.to
    c.requires.ordered c.requires.within

pub returns-clause-none : goal.returns-clause-none
returns-clause-none g c k low high =
    has_after_clear_span (set_in g.Self.Shape g.Self.Order.Endian c.args.self.now) _
    c.args.from c.args.to k
    c.clear_range_in.ensures.set low high

pub returns-clause-shrinks : goal.returns-clause-shrinks
returns-clause-shrinks g c all =
    let before = set_in g.Self.Shape g.Self.Order.Endian c.args.self.now in
    let each = count_of_all before c.args.from c.args.to all in
    let most = below_between before c.args.to before.capacity c.requires.within in
    omega (arith, each, returns-clause-count g c, most.0)
