use Rattle.std.proofs.Common.{ap, ◌∙◌, arith}
use Rattle.bittle.specs.PlainSet.{size}
use Rattle.bittle.specs.Values.{set_in}
use Rattle.bittle.proofs.CallerChanges.{size_with_span}
use Rattle.bittle_ext.proofs.CallerSpans.{has_after_set_span}
use Rattle.bittle_ext.proofs.bits_owned_ext.BitsOwnedExt.with_range.Goals as goal

pub returns-clause-count : goal.returns-clause-count
returns-clause-count g c =
    ap size c.set_range_in.ensures.set
    ∙ size_with_span (set_in g.Self.Shape g.Self.Order.Endian c.args.self) c.args.from c.args.to
    c.requires.ordered
    (omega (arith, c.requires.within, g.met.Self.FixedCapacity.one_capacity c.args.self))

pub returns-clause-all : goal.returns-clause-all
returns-clause-all g c k low high =
    has_after_set_span (set_in g.Self.Shape g.Self.Order.Endian c.args.self) _ c.args.from c.args.to
    k c.set_range_in.ensures.set low high
