use Rattle.bittle.specs.Values.{set_in}
use Rattle.bittle_ext.proofs.FoundBits.{unset_at_first}
use Rattle.bittle_ext.proofs.bits_ext.BitsExt.next_zero.Goals as goal

pub returns-clause-found : goal.returns-clause-found
returns-clause-found g c =
    unset_at_first (set_in g.Self.Shape g.Self.Order.Endian c.args.self.now) _ _ _
    c.first_from.ensures
