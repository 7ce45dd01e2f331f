use Rattle.bittle_ext.proofs.views.in_order.InOrderBits.all_zeros.Goals as goal

pub returns-clause-in_own_order : goal.returns-clause-in_own_order
returns-clause-in_own_order g c = c.all_zeros.ensures.in_each_order _
