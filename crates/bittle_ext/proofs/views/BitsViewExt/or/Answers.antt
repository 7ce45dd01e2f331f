use Rattle.bittle.specs.Values.{set_in}
use Rattle.bittle_ext.proofs.KeptSizes.{size_view_either}
use Rattle.bittle_ext.proofs.views.BitsViewExt.or.Goals as goal

pub returns-clause-at_least : goal.returns-clause-at_least
returns-clause-at_least g c =
    size_view_either (set_in g.Self.Shape g.Self.Order.Endian c.args.self.now)
    (set_in g.B.Shape g.B.Order.Endian c.args.other.now) _ c.of_alike.ensures.set
