use Rattle.std.proofs.Common.{arith}
use Rattle.bittle.specs.Values.{set_in}
use Rattle.bittle_ext.proofs.CallerMembers.{has_after_clear, index_below}
use Rattle.bittle_ext.proofs.bits_index_ext.BitsIndexMutExt.try_clear_bit.Goals as goal

pub returns-then-index-bits_capacity-clause-lacks :
    goal.returns-then-index-bits_capacity-clause-lacks
returns-then-index-bits_capacity-clause-lacks g c _ =
    let capacity = (g.Self.Shape.big c.args.self.now).capacity in
    has_after_clear (set_in g.Self.Shape g.Self.Order.Endian c.args.self.now)
    (set_in g.Self.Shape g.Self.Order.Endian c.clear_bit_in.new.self) c.args.index
    c.clear_bit_in.ensures.set
    (index_below c.args.index c.bits_capacity.result capacity
    (λ small. c.bits_capacity.ensures.value (c.requires, small))
    (omega (arith, c.bits_capacity.auto)) c.if-index-bits_capacity.true)
