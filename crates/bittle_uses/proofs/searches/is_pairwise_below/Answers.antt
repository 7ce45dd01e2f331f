use Rattle.std.proofs.Common.{ℕ, nat_le, ap, ◌∙◌, rules}
use Rattle.std.proofs.lemmas.Iterator.{YieldsList-from_zip}
use Rattle.std.proofs.lemmas.Iterator.Search.{all_from_yields_List}
use Rattle.bittle.proofs.CallerWalks.{walk_yields}
use Rattle.bittle_uses.proofs.searches.is_pairwise_below.Goals as goal

pub returns : goal.returns
returns g c =
    let first = walk_yields _ _ (ap (λ w. w.remaining) c.zip.ensures.first
    ∙ c.iter_ones.ensures.remaining) in
    let second = walk_yields _ _ (ap (λ w. w.remaining) c.zip.ensures.second
    ∙ c.iter_ones-2.ensures.remaining) in
    all_from_yields_List (λ (pair : ℕ × ℕ). nat_le pair.0 pair.1) _ _ _ c.all.ensures.ran
    (YieldsList-from_zip first second) (λ x b q k. search rules)
