use Rattle.std.proofs.Common.{◌≡◌, ◌<◌, ℕ, Bor, ◌∷◌, [], ◌++◌, map, length, sym, ap, ◌∙◌, arith}
use Rattle.std.proofs.Common.{rules}
use Rattle.std.proofs.lemmas.List.{take_more_set, map-append, length-append, length-map, length-set}
use Rattle.std.proofs.lemmas.List.{length-take}
use Rattle.std.specs.Prelude.{slice_index}
use Rattle.bittle.specs.BitPatterns.{bit_set}
use Rattle.bittle.specs.PlainSet.{ascending}
use Rattle.bittle.proofs.CallerJoins.{answers_below, all_answers_at_members, members_are_places}
use Rattle.bittle_uses.proofs.entities.pick.Goals.{In-Some}
use Rattle.bittle_uses.proofs.entities.pick.Goals as goal

few : (c : In-Some) → c.loop-component.count < 64
few c =
    let join = c.join_ones-component-items in
    let start = c.into_iter-component-iterator.ensures.into_iter_gives in
    answers_below (λ i. i.rest.now) join.result c.loop-component.component-iterator
    c.next.new.self c.loop-component.yielded c.in-Some.component (bit_set 64 c.args.mask)
    c.loop-component.count join.ensures.members c.loop-component.invariant.count
    join.ensures.answers (rw start at c.loop-component.yielded_by) c.in-Some.ensures.steps

pub bounds-row-count : goal.bounds-row-count
bounds-row-count c = few (goal.at.bounds-row-count c).In-Some

pub offset_bounds-row-count : goal.offset_bounds-row-count
offset_bounds-row-count c = let b = few (goal.at.offset_bounds-row-count c).In-Some in search rules

pub loop-component-preserved : goal.loop-component-preserved
loop-component-preserved c =
    let t = c.loop-component.invariant in
    let b = few (goal.at.loop-component-preserved c).In-Some in
    let now = λ (x : Bor ℕ). x.now in
    record {
      room = omega (arith, b);
      places = length-set c.loop-component.row c.loop-component.count c.in-Some.component.now
          ∙ t.places;
      count = omega (
        arith,
        t.count,
        length-append c.loop-component.yielded
            (c.in-Some.component ∷ []),
      );
      picked = take_more_set c.loop-component.row c.loop-component.count c.in-Some.component.now
          (omega (arith, t.places)) ∙ ap (λ xs. xs ++ c.in-Some.component.now ∷ []) t.picked
          ∙ sym (map-append now c.loop-component.yielded (c.in-Some.component ∷ []));
    }

pub returns-clause-picked : goal.returns-clause-picked
returns-clause-picked c =
    let join = c.join_ones-component-items in
    let start = c.into_iter-component-iterator.ensures.into_iter_gives in
    let items : join.result.iter.rest.now
    ≡ c.args.components.now = ap (λ i. i.rest.now) join.ensures.iter ∙ c.iter.ensures.rest in
    let bound = members_are_places (bit_set 64 c.args.mask) join.result.mask.remaining
    join.result.iter.rest.now join.ensures.members
    (omega (arith, ap length items, c.told-components)) in
    let all = all_answers_at_members (λ i. i.rest.now) join.result
    c.loop-component.component-iterator c.next.new.self c.loop-component.yielded
    join.ensures.end join.ensures.none_taken bound (rw start at c.loop-component.yielded_by)
    c.in-None.ensures.steps in
    c.loop-component.invariant.picked ∙ all
    ∙ ap (λ xs. map (λ n. slice_index xs n) join.result.mask.remaining) items
    ∙ ap (map (λ n. slice_index c.args.components.now n)) join.ensures.members

pub returns-clause-count : goal.returns-clause-count
returns-clause-count c =
    let t = c.loop-component.invariant in
    let a = ap length (returns-clause-picked c) in
    let b = length-map (ascending (bit_set 64 c.args.mask))
    (λ n. slice_index c.args.components.now n) in
    omega (arith, a, b, length-take c.loop-component.count c.loop-component.row, t.places, t.room)
