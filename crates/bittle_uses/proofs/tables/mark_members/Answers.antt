use Rattle.std.proofs.Common.{◌≡◌, ◌||◌, Bool, true, false, get_or, refl, sym, ap, ◌∙◌}
use Rattle.bittle.specs.BitPatterns.{bit_set}
use Rattle.bittle.proofs.CallerLists.{ascending_has}
use Rattle.bittle_uses.proofs.tables.mark_members.Goals as goal

or_none : (a : Bool) → (a || false) ≡ a
or_none true = refl
or_none false = refl

pub returns : goal.returns
returns c = λ i h.
    let end = c.in-None.ensures.steps.gave.0 in
    let all = ap (λ w. w.remaining) c.into_iter-index-iterator.ensures.into_iter_gives
    ∙ c.iter_ones-index-items.ensures.remaining in
    let kept = rw (end, all) at (c.loop-index.invariant i h) in
    sym (or_none (get_or c.loop-index.row i false)) ∙ kept
    ∙ ap (λ b. get_or c.args.row.now i false || b) (ascending_has (bit_set 64 c.args.mask) i h)
