use Rattle.std.proofs.Common.{ap, ◌∙◌, arith}
use Rattle.bittle_uses.proofs.JoinedWords.{members_joined}
use Rattle.bittle_uses.proofs.tables.word_of_members.Goals as goal

pub returns : goal.returns
returns c =
    let end = c.in-None.ensures.steps.gave.0 in
    let all = ap (λ w. w.remaining) c.into_iter-index-iterator.ensures.into_iter_gives
    ∙ c.iter_ones-index-items.ensures.remaining in
    (rw (end, all) at c.loop-index.invariant) ∙ members_joined c.args.mask (omega arith)
