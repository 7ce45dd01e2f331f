use Rattle.bittle.specs.Values.{set_in}
use Rattle.bittle_ext.proofs.KeptSizes.{size_view_common}
use Rattle.bittle_ext.proofs.views.BitsViewExt.and.Goals as goal

pub returns-clause-at_most : goal.returns-clause-at_most
returns-clause-at_most g c =
    size_view_common (set_in g.Self.Shape g.Self.Order.Endian c.args.self.now)
    (set_in g.B.Shape g.B.Order.Endian c.args.other.now) _ c.of_first.ensures.set
