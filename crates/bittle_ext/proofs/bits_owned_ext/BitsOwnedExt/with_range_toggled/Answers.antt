use Rattle.std.proofs.Common.{arith}
use Rattle.bittle.specs.Values.{set_in}
use Rattle.bittle_ext.proofs.CallerSpans.{contains_after_toggle_span}
use Rattle.bittle_ext.proofs.bits_owned_ext.BitsOwnedExt.with_range_toggled.Goals as goal

pub returns-clause-flipped : goal.returns-clause-flipped
returns-clause-flipped g c k low high =
    contains_after_toggle_span (set_in g.Self.Shape g.Self.Order.Endian c.args.self) _ _ _ k
    c.toggle_range_in.ensures.set
    (omega (arith, c.requires.within, g.met.Self.FixedCapacity.one_capacity c.args.self)) low high
