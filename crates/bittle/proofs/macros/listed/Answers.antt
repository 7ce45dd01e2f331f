use Rattle.std.proofs.Common.{◌∙◌}
use Rattle.bittle.proofs.RangeSets.{listed_calls}
use Rattle.bittle.proofs.macros.listed.Goals as goal

pub returns : goal.returns
returns g c =
    let one = g.met.B.FixedCapacity.one_capacity c.put_until.new.bits in
    listed_calls _ _ _ _ (c.zeros-set.ensures.in_each_order g.B.Order.Endian.mirrored)
    c.set_bit.ensures.set c.set_bit-2.ensures.set c.put_through.ensures.set c.put_until.ensures.set
    (c.bits_capacity-capacity.ensures.value
    (rw one (c.requires, g.met.B.FixedCapacity.type_fits c.requires)) ∙ one)
    c.put_until-2.ensures.set
