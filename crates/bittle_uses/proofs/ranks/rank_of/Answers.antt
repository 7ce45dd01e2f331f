use Rattle.std.proofs.Common.{◌==◌, rules}
use Rattle.std.proofs.lemmas.Iterator.Search.{position_from_yields_List}
use Rattle.bittle.proofs.CallerWalks.{walk_yields}
use Rattle.bittle_uses.proofs.ranks.rank_of.Goals as goal

pub returns : goal.returns
returns g c =
    position_from_yields_List (λ i. i == c.args.index) _ _ _ c.position.ensures.ran
    (walk_yields _ _ c.iter_ones.ensures.remaining) (λ x b q k. search rules)
