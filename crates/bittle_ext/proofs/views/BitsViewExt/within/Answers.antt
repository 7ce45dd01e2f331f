use Rattle.bittle_ext.proofs.KeptSizes.{size_within}
use Rattle.bittle_ext.proofs.views.BitsViewExt.within.Goals as goal

pub returns-clause-at_most : goal.returns-clause-at_most
returns-clause-at_most g c = size_within _ _ _ _ c.within_span.ensures.set
