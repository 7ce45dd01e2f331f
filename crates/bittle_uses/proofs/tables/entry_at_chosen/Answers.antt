use Rattle.std.proofs.Common.{◌<◌, ◌==◌, not, drop, take, map, Some, refl, sym, ap, ◌∙◌, arith}
use Rattle.std.specs.List.{filter, last_or}
use Rattle.std.specs.Prelude.{slice_index}
use Rattle.std.proofs.lemmas.Bool.Decides.{nat_tests}
use Rattle.std.specs.Iterator.Adapters.{filter_callee, filter_source, skip_count, skip_source}
use Rattle.std.proofs.lemmas.Iterator.{YieldsList-from_take, items_from_drains}
use Rattle.std.proofs.lemmas.Iterator.Adapters.{YieldsList-from_skip}
use Rattle.std.proofs.lemmas.Iterator.Consumers.{YieldsList-from_filter}
use Rattle.std.proofs.lemmas.List.{map-id}
use Rattle.std.proofs.lemmas.List.Elements.{All-drop, All-filter, All-from_get_or, All-take}
use Rattle.bittle.specs.BitPatterns.{bit_set}
use Rattle.bittle.specs.PlainSet.{ascending}
use Rattle.bittle.proofs.CallerLists.{ascending_below}
use Rattle.bittle.proofs.CallerWalks.{walk_yields}
use Rattle.bittle_uses.proofs.Lasts.{last_pushed, yielded_each}
use Rattle.bittle_uses.proofs.tables.entry_at_chosen.Goals as goal

pub loop-index-preserved : goal.loop-index-preserved
loop-index-preserved c =
    sym (last_pushed (λ i. slice_index c.args.row.now i) (Some 0) c.loop-index.yielded
    c.in-Some.index)

pub bounds-row-index : goal.bounds-row-index
bounds-row-index c =
    let t = c.take-index-items in
    let start = c.into_iter-index-iterator.ensures.into_iter_gives in
    let inner = ap skip_source t.ensures.source ∙ c.skip.ensures.source in
    let walk = ap filter_source inner ∙ c.filter.ensures.source in
    let kept = YieldsList-from_filter _ (λ i. not (i == 7)) (walk_yields t.result.iter.iter.iter _
    (ap (λ w. w.remaining) walk ∙ c.iter_ones.ensures.remaining))
    (ap filter_callee inner ∙ c.filter.ensures.closure)
    (λ x b q k. (refl, grind (arith, nat_tests, k))) in
    let road = YieldsList-from_take 3 (YieldsList-from_skip 1 kept
    (ap skip_count t.ensures.source ∙ c.skip.ensures.count)) t.ensures.count in
    let members = ascending (bit_set 64 c.args.mask) in
    let others = filter (λ i. not (i == 7)) members in
    let below = All-take (λ i. i < 64) 3 (drop 1 others) (All-drop (λ i. i < 64) 1 others
    (All-filter (λ i. not (i == 7)) (λ i. i < 64) members
    (All-from_get_or (λ i. i < 64) members 0 (ascending_below (bit_set 64 c.args.mask))))) in
    yielded_each (λ i. i < 64) (take 3 (drop 1 others)) c.loop-index.yielded c.in-Some.index road
    below (rw start at c.loop-index.yielded_by) c.in-Some.ensures.steps

pub returns : goal.returns
returns c =
    let t = c.take-index-items in
    let start = c.into_iter-index-iterator.ensures.into_iter_gives in
    let inner = ap skip_source t.ensures.source ∙ c.skip.ensures.source in
    let walk = ap filter_source inner ∙ c.filter.ensures.source in
    let kept = YieldsList-from_filter _ (λ i. not (i == 7)) (walk_yields t.result.iter.iter.iter _
    (ap (λ w. w.remaining) walk ∙ c.iter_ones.ensures.remaining))
    (ap filter_callee inner ∙ c.filter.ensures.closure)
    (λ x b q k. (refl, grind (arith, nat_tests, k))) in
    let road = YieldsList-from_take 3 (YieldsList-from_skip 1 kept
    (ap skip_count t.ensures.source ∙ c.skip.ensures.count)) t.ensures.count in
    let items = items_from_drains c.loop-index.yielded (
      c.loop-index.index-iterator,
      rw start at c.loop-index.yielded_by,
      λ _. (c.next.new.self, c.in-None.ensures.steps),
    ) road in
    c.loop-index.invariant
    ∙ ap (λ xs. last_or (Some 0) (map (λ i. slice_index c.args.row.now i) xs))
    (sym (map-id c.loop-index.yielded) ∙ items)
