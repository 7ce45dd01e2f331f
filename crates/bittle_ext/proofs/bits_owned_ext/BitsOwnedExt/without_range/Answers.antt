use Rattle.std.proofs.Common.{ap, ◌∙◌, arith}
use Rattle.bittle.specs.PlainSet.{size}
use Rattle.bittle.specs.Values.{set_in}
use Rattle.bittle.proofs.CallerChanges.{size_without_span}
use Rattle.bittle_ext.proofs.CallerSpans.{has_after_clear_span}
use Rattle.bittle_ext.proofs.bits_owned_ext.BitsOwnedExt.without_range.Goals as goal

pub returns-clause-count : goal.returns-clause-count
returns-clause-count g c =
    ap size c.clear_range_in.ensures.set
    ∙ size_without_span (set_in g.Self.Shape g.Self.Order.Endian c.args.self) c.args.from c.args.to
    c.requires.ordered
    (omega (arith, c.requires.within, g.met.Self.FixedCapacity.one_capacity c.args.self))

pub returns-clause-none : goal.returns-clause-none
returns-clause-none g c k low high =
    has_after_clear_span (set_in g.Self.Shape g.Self.Order.Endian c.args.self) _ c.args.from
    c.args.to k c.clear_range_in.ensures.set low high
