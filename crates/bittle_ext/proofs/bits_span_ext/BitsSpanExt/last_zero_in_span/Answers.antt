use Rattle.bittle.specs.Values.{set_in}
use Rattle.bittle_ext.proofs.FoundBits.{unset_at_last}
use Rattle.bittle_ext.proofs.bits_span_ext.BitsSpanExt.last_zero_in_span.Goals as goal

pub returns-clause-found : goal.returns-clause-found
returns-clause-found g c =
    unset_at_last (set_in g.Self.Shape g.Self.Order.Endian c.args.self.now) _ _ _
    c.last_zero_in.ensures
