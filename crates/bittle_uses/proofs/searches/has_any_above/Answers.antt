use Rattle.std.proofs.Common.{nat_lt, rules}
use Rattle.std.proofs.lemmas.Iterator.Search.{any_from_yields_List}
use Rattle.bittle.proofs.CallerWalks.{walk_yields}
use Rattle.bittle_uses.proofs.searches.has_any_above.Goals as goal

pub returns : goal.returns
returns g c =
    any_from_yields_List (λ i. nat_lt c.args.bound i) _ _ _ c.any.ensures.ran
    (walk_yields _ _ c.iter_ones.ensures.remaining) (λ x b q k. search rules)
