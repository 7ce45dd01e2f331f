use Rattle.bittle.proofs.set.SetBitsMut.clear_bits.Goals as goal

pub returns-clause-in_own_order : goal.returns-clause-in_own_order
returns-clause-in_own_order g c = c.clear_bits.ensures.in_each_order _
