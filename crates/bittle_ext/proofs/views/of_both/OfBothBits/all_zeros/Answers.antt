use Rattle.bittle_ext.proofs.views.of_both.OfBothBits.all_zeros.Goals as goal

pub returns-clause-in_own_order : goal.returns-clause-in_own_order
returns-clause-in_own_order g c = c.is_empty.ensures.in_each_order _
