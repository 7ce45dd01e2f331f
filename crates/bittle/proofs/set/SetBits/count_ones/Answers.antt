use Rattle.bittle.proofs.set.SetBits.count_ones.Goals as goal

pub returns-clause-in_own_order : goal.returns-clause-in_own_order
returns-clause-in_own_order g c = c.count_ones.ensures.in_each_order _
