use Rattle.std.proofs.Common.{arith}
use Rattle.bittle.specs.Values.{set_in}
use Rattle.bittle_ext.proofs.CallerMembers.{has_after_set, index_below}
use Rattle.bittle_ext.proofs.bits_index_ext.BitsIndexMutExt.try_insert.Goals as goal

pub returns-then-index-bits_capacity-clause-has :
    goal.returns-then-index-bits_capacity-clause-has
returns-then-index-bits_capacity-clause-has g c =
    let capacity = (g.Self.Shape.big c.args.self.now).capacity in
    has_after_set (set_in g.Self.Shape g.Self.Order.Endian c.args.self.now)
    (set_in g.Self.Shape g.Self.Order.Endian c.insert.new.self) c.args.index c.insert.ensures.set
    (index_below c.args.index c.bits_capacity.result capacity
    (λ small. c.bits_capacity.ensures.value (c.requires, small))
    (omega (arith, c.bits_capacity.auto)) c.if-index-bits_capacity.true)
