use Rattle.std.proofs.Common.{◌≡◌, Bool, true, false, ℕ, List, [], ◌∷◌, ◌++◌, codes, append_assoc}
use Rattle.std.proofs.Common.{refl, Ok}
use Rattle.std.proofs.Output.{writes_on_IsOk-append}
use Rattle.bittle.specs.DebugText.{index_text}
use Rattle.bittle.proofs.set.debug.write_all.Invariants.{others_text, rest_text}
use Rattle.bittle.proofs.set.debug.write_all.Goals as goal

rest_text-next : (first : Bool) (i : ℕ) (left : List ℕ) →
    rest_text first (i ∷ left) ≡ index_text first i ++ rest_text false left
rest_text-next true i left = append_assoc (index_text true i) (others_text left) (codes "}")
rest_text-next false i left = append_assoc (index_text false i) (others_text left) (codes "}")

rest_text-none : (first : Bool) → rest_text first [] ≡ codes "}"
rest_text-none true = refl
rest_text-none false = refl

pub loop-index-init : goal.loop-index-init
loop-index-init g c = λ r f.
    writes_on_IsOk-append _ _ _ _ (Ok tt) r _ _ (λ _. refl) c.in_ok-write_str.ensures.writes

pub loop-index-preserved : goal.loop-index-preserved
loop-index-preserved g c = λ r f rest.
    let step = g.met.I.Counted.steps_front _ _ _ c.in-Some.ensures.steps in
    c.loop-index.invariant r f (rw (step.gave, rest_text-next)
    (writes_on_IsOk-append _ _ _ _ (Ok tt) r _ _ (λ _. refl) c.in_ok-write_index.ensures rest))

pub returns : goal.returns
returns g c =
    let step = g.met.I.Counted.steps_front _ _ _ c.in-None.ensures.steps in
    rw (← c.into_iter-index-iterator.ensures.into_iter_gives)
    (c.loop-index.invariant _ _ (rw (step.gave.0, rest_text-none) c.write_str-2.ensures.writes))
