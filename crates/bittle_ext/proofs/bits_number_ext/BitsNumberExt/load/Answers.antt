use Rattle.bittle.specs.Values.{set_in}
use Rattle.bittle_ext.proofs.NumberBits.{number_is}
use Rattle.bittle_ext.proofs.bits_number_ext.BitsNumberExt.load.Goals as goal

pub returns-clause-value : goal.returns-clause-value
returns-clause-value g c =
    number_is (set_in g.Self.Shape g.Self.Order.Endian c.args.self.now) c.args.first c.args.count _
    c.number_from.ensures.below c.number_from.ensures.bits
