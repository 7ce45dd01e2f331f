use Rattle.std.proofs.Common.{◌∙◌, ap, arith}
use Rattle.bittle.specs.Values.{set_in}
use Rattle.bittle_ext.specs.Between.{members_to}
use Rattle.bittle.specs.PlainSet.{size}
use Rattle.bittle_ext.proofs.bits_combine_ext.BitsCombineExt.from_set.Goals as goal

pub returns-clause-set : goal.returns-clause-set
returns-clause-set g c =
    c.copy_from.ensures.set
    ∙ ap (λ n. members_to n (set_in g.B.Shape g.B.Order.Endian c.args.other.now))
    (g.met.Self.FixedCapacity.one_capacity c.zeros-set.result)

pub returns-clause-each : goal.returns-clause-each
returns-clause-each g c i below =
    c.copy_from.ensures.each i
    (omega (arith, below, g.met.Self.FixedCapacity.one_capacity c.zeros-set.result))

pub returns-clause-count : goal.returns-clause-count
returns-clause-count g c room =
    c.copy_from.ensures.count
    (omega (arith, room, g.met.Self.FixedCapacity.one_capacity c.zeros-set.result))
