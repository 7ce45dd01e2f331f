use Rattle.bittle.specs.Values.{set_in}
use Rattle.bittle_ext.proofs.CallerSpans.{contains_after_toggle_span}
use Rattle.bittle_ext.proofs.bits_mut_ext.BitsMutExt.toggle_range.Goals as goal

pub returns-clause-flipped : goal.returns-clause-flipped
returns-clause-flipped g c k low high =
    contains_after_toggle_span (set_in g.Self.Shape g.Self.Order.Endian c.args.self.now) _ _ _ k
    c.toggle_range_in.ensures.set c.requires.within low high
