-- Facts on iterators that callers cite: what an iterator yields, and its greatest item.
use Rattle.std.proofs.Common.{◌≡◌, ℕ, List, Option, length, max, sym, ap, ◌∙◌, subst}
use Rattle.std.specs.Iterator.{PicksByCmp}
use Rattle.std.specs.List.{reduce}
use Rattle.std.specs.Ordering.{max_by_ordering, nat_cmp}
use Rattle.std.proofs.lemmas.Iterator.{YieldsList}
use Rattle.std.proofs.lemmas.Iterator.Adapters.{option_map_id}
use Rattle.std.proofs.lemmas.Iterator.Consumers.{YieldsList-from_shown, max_from_yields_List}
use Rattle.bittle_bits.specs.Walk.{Walk, StepsFront}

-- an iterator yields what remains
pub walk_yields : (w : Walk) (items : List ℕ) → w.remaining ≡ items →
    YieldsList StepsFront (λ x. x) w items
walk_yields w items e =
    subst (YieldsList StepsFront (λ x. x) w) e
    (YieldsList-from_shown StepsFront (λ x. x) (λ v. v.remaining) (λ s t h. ap length h.gave.0)
    (λ s x t h. h.gave) w)

-- the item that `max` of an iterator returns is the greatest of what remains
pub walk_maximum : (w : Walk) (items : List ℕ) (r : Option ℕ) → w.remaining ≡ items →
    PicksByCmp StepsFront max_by_ordering nat_cmp w r → r ≡ reduce max items
walk_maximum w items r e ran =
    sym (option_map_id r)
    ∙ max_from_yields_List {v = λ (i : ℕ). i} w r ran (walk_yields w items e)
