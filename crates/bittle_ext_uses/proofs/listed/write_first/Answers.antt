use Rattle.std.proofs.Common.{◌≡◌, ℕ, ◌+◌, ◌<◌, List, [], ◌∷◌, drop, get_or, length}
use Rattle.std.proofs.Common.{length-drop, length-set, set, inl, inr, refl, sym, ap, ◌∙◌}
use Rattle.std.proofs.Common.{arith, get_or-set_same, get_or-set_other}
use Rattle.std.proofs.lemmas.Bool.{cases_eq, cases_lt}
use Rattle.std.proofs.lemmas.List.{drop_more, drop_all}
use Rattle.bittle_ext.proofs.ListedMembers.{ascending_length}
use Rattle.bittle_ext_uses.proofs.listed.write_first.Invariants.{HasWritten}
use Rattle.bittle_ext_uses.proofs.listed.write_first.Goals as goal
use Rattle.bittle_ext_uses.proofs.listed.write_first.Goals.{in-None, in-Some+then-room-count}

pub loop-index-init : goal.loop-index-init
loop-index-init c = record {
  within_room = omega arith;
  within_items = omega arith;
  others = refl;
  written = λ k below. absurd (omega (arith, below));
}

-- a turn writes one more item
one_more : (items room left rest : List ℕ) (count item : ℕ) → HasWritten items room left count →
    left ≡ item ∷ rest → count < length room →
    HasWritten items (set room count item) rest (count + 1)
one_more items room left rest count item so_far next space = record {
  within_room = omega (arith, space, length-set room count item);
  within_items = omega (arith, some);
  others = ap (λ xs. drop 1 xs) same;
  written = λ k below. elim (cases_eq k count) [
    | inl here ↦
        ap (λ j. get_or (set room count item) j 0) here
        ∙ get_or-set_same room count item 0 space ∙ sym (ap (λ xs. get_or xs 0 0) same)
        ∙ sym (ap (λ j. get_or items j 0) here)
    | inr apart ↦
        get_or-set_other room count k item 0 apart
        ∙ so_far.written k (omega (arith, below, apart))
  ];
}
  where
    some : count < length items
    some = elim (cases_lt count (length items)) [
      | inl below ↦ below
      | inr past ↦
          let none : [] ≡ item ∷ rest = sym (drop_all count items past) ∙ so_far.others ∙ next in
          absurd (cc)
    ]

    same : get_or items count 0 ∷ drop (count + 1) items ≡ item ∷ rest
    same = sym (drop_more items count 0 some) ∙ so_far.others ∙ next

pub loop-index-preserved : goal.loop-index-preserved
loop-index-preserved c =
    one_more _ _ _ _ _ _ c.loop-index.invariant c.in-Some.ensures.steps.gave c.if-room-count.false

pub returns-clause-count : goal.returns-clause-count
returns-clause-count c =
    let all = ap (λ w. w.remaining) c.into_iter-index-iterator.ensures.into_iter_gives
    ∙ c.iter_ones-index-items.ensures.remaining in
    let many = ap length all ∙ ascending_length _ in
    let inv = c.loop-index.invariant in
    elim c.match-next.branch [
      | in-None w ↦
          let none = ap length (inv.others ∙ w.in-None.ensures.steps.gave.0) in
          omega (
            arith,
            many,
            none,
            inv.within_room,
            inv.within_items,
            length-drop c.loop-index.count c.into_iter-index-iterator.result.remaining,
          )
      | in-Some+then-room-count w ↦
          omega (arith, many, inv.within_room, inv.within_items, w.if-room-count.true)
    ]

pub returns-clause-items : goal.returns-clause-items
returns-clause-items c k below =
    let all = ap (λ w. w.remaining) c.into_iter-index-iterator.ensures.into_iter_gives
    ∙ c.iter_ones-index-items.ensures.remaining in
    c.loop-index.invariant.written k below ∙ ap (λ xs. get_or xs k 0) all
