use Rattle.bittle.specs.Values.{set_in}
use Rattle.std.proofs.Common.{arith}
use Rattle.bittle_ext.specs.ViewLaws.{none_past_complement}
use Rattle.bittle_ext.proofs.FoundBits.{unset_at_last}
use Rattle.bittle_ext.proofs.bits_ext.BitsExt.prev_zero.Goals as goal

pub returns-clause-last : goal.returns-clause-last
returns-clause-last g c = grind (arith, none_past_complement)

pub returns-clause-found : goal.returns-clause-found
returns-clause-found g c =
    unset_at_last (set_in g.Self.Shape g.Self.Order.Endian c.args.self.now) _ _ _
    c.last_zero_in.ensures
