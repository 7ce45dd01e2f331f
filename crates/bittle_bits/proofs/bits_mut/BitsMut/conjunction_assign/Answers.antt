use Rattle.bittle_bits.proofs.bits_mut.BitsMut.conjunction_assign.Goals as goal

pub returns-clause-in_own_order : goal.returns-clause-in_own_order
returns-clause-in_own_order g c = c.assign_by_operation.ensures.set _
