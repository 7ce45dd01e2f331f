use Rattle.std.proofs.Common.{true, ◌∙◌}
use Rattle.bittle.proofs.RangeSets.{listed_calls}
use Rattle.bittle.proofs.macros.listed_le.Goals as goal

pub returns : goal.returns
returns g c =
    let one = g.met.B.FixedCapacity.one_capacity c.put_until_in.new.bits in
    listed_calls _ _ _ _ (c.zeros-set.ensures.in_each_order true) c.set_bit_le.ensures.set
    c.set_bit_le-2.ensures.set c.put_through_in.ensures.set c.put_until_in.ensures.set
    (c.bits_capacity-capacity.ensures.value
    (rw one (c.requires, g.met.B.FixedCapacity.type_fits c.requires)) ∙ one)
    c.put_until_in-2.ensures.set
