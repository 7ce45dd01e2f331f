use Rattle.std.proofs.Common.{sym, ◌∙◌, rules}
use Rattle.bittle.proofs.CallerWalks.{walk_maximum}
use Rattle.bittle_uses.proofs.tables.entry_at_maximum.Goals as goal

pub returns-in-Some : goal.returns-in-Some
returns-in-Some c =
    let most = walk_maximum _ _ _ c.iter_ones.ensures.remaining c.max.ensures.ran in
    rw (sym most ∙ c.in-Some.is) (search rules)
