use Rattle.bittle.proofs.CallerWalks.{walk_maximum}
use Rattle.bittle_uses.proofs.searches.greatest.Goals as goal

pub returns : goal.returns
returns g c = walk_maximum _ _ _ c.iter_ones.ensures.remaining c.max.ensures.ran
