use Rattle.bittle.proofs.set.SetBitsOwned.zeros.Goals as goal

pub returns-clause-in_own_order : goal.returns-clause-in_own_order
returns-clause-in_own_order g c = c.zeros.ensures.in_each_order _
