-- The order of turns, and how a search finds the next ready task.
use Rattle.std.proofs.Common.{◌≡◌, ℕ, ◌<◌, ◌≤◌, ◌⊎◌, true, false, cond, ◌&&◌, ◌||◌, nat_le, nat_lt}
use Rattle.std.proofs.Common.{Option, Some, None, inl, inr, refl, sym, ap, ◌∙◌, subst, arith}
use Rattle.std.proofs.lemmas.Bool.{cases_Bool, cases_lt, lt-ltb, ltb-true, le-leb, lt-leb, leb-true}
use Rattle.std.proofs.lemmas.Bool.{and_parts, and_right, or_right}
use Rattle.std.specs.Prelude.{MatchOption}
use Rattle.bittle.specs.PlainSet.{PlainSet}
use Rattle.bittle.specs.Searches.{NoneIn, IsFirstIn}
use Rattle.bit_queue.specs.Queue.{most_urgent}
use Rattle.bit_queue.specs.QueueLaws.{IsMostUrgent}
use Rattle.bit_queue.specs.RoundRobin.{Round, round_at, to_come, found_or, next_in_turn}
use Rattle.bit_queue.specs.RoundRobinLaws.{comes_before, IsNextInTurn}
use Rattle.bit_queue.proofs.Urgency.{most_urgent-is, most_urgent-first, most_urgent-found}

-- one task comes before another, counted up from the turn and then from 0
abbrev pub Comes : ℕ → ℕ → ℕ → Type 0
Comes turn one other = ((turn ≤ one) × (one < other))
    ⊎ ((other < turn) × ((turn ≤ one) ⊎ (one < other)))

-- `comes_before` tests whether one task comes before another
pub comes_is : (turn one other : ℕ) → Comes turn one other → comes_before turn one other ≡ true
comes_is turn one other (inl c) =
    let up = le-leb turn other (omega (arith, c.0, c.1)) in
    let from = le-leb turn one c.0 in
    let below = lt-ltb one other c.1 in
    rw (up, from, below) refl
comes_is turn one other (inr (past, inl h)) =
    let down = lt-leb turn other past in
    let from = le-leb turn one h in
    rw (down, from) refl
comes_is turn one other (inr (past, inr h)) =
    let down = lt-leb turn other past in
    let below = lt-ltb one other h in
    rw (down, below) (or_right (nat_le turn one) true refl)

pub comes_from : (turn one other : ℕ) → comes_before turn one other ≡ true → Comes turn one other
comes_from turn one other e = elim (cases_lt other turn) [
  | inl past ↦
      let down : nat_le turn other ≡ false = lt-leb turn other past in
      let either : (nat_le turn one || nat_lt one other) ≡ true =
      ap (λ b. cond b (nat_le turn one && nat_lt one other) (nat_le turn one || nat_lt one other))
      (sym down) ∙ e in
      elim (cases_Bool (nat_le turn one)) [
        | inl from ↦ inr (past, inl (leb-true turn one from))
        | inr none ↦ inr (
          past,
          inr (ltb-true one other
              (sym (ap (λ b. b || nat_lt one other) none) ∙ either)),
        )
      ]
  | inr g ↦
      let up : nat_le turn other ≡ true = le-leb turn other g in
      let both : (nat_le turn one && nat_lt one other) ≡ true =
      ap (λ b. cond b (nat_le turn one && nat_lt one other) (nat_le turn one || nat_lt one other))
      (sym up) ∙ e in
      let parts = and_parts (nat_le turn one) (nat_lt one other) both in
      inl (leb-true turn one parts.0, ltb-true one other parts.1)
]

pub comes_not : (turn one other : ℕ) → (Comes turn one other → ⊥) →
    comes_before turn one other ≡ false
comes_not turn one other never = elim (cases_Bool (comes_before turn one other)) [
  | inl e ↦ absurd (never (comes_from turn one other e))
  | inr e ↦ e
]

-- of two tasks one comes before the other
pub comes_either : (turn one other : ℕ) → (one ≡ other → ⊥) → (Comes turn other one → ⊥) →
    Comes turn one other
comes_either turn one other apart never = elim (cases_lt other turn) [
  | inl past ↦ elim (cases_lt one turn) [
    | inl low ↦ elim (cases_lt one other) [
      | inl l ↦ inr (past, inr l)
      | inr g ↦ elim (cases_lt other one) [
        | inl m ↦ absurd (never (inr (low, inr m)))
        | inr h ↦ absurd (apart (omega arith))
      ]
    ]
    | inr from ↦ inr (past, inl from)
  ]
  | inr up ↦ elim (cases_lt one turn) [
    | inl low ↦ absurd (never (inr (low, inl up)))
    | inr from ↦ elim (cases_lt one other) [
      | inl l ↦ inl (from, l)
      | inr g ↦ elim (cases_lt other one) [
        | inl m ↦ absurd (never (inl (up, m)))
        | inr h ↦ absurd (apart (omega arith))
      ]
    ]
  ]
]

-- a task at or past the turn that is not in `to_come` is not ready
not_to_come : (r : Round) (k : ℕ) → r.turn ≤ k → (to_come r).has k ≡ false → r.ready.has k ≡ false
not_to_come r k from none =
    sym (ap (λ b. b && r.ready.has k) (le-leb r.turn k from)) ∙ none

-- `next_in_turn` is the next ready task, or None if no task is ready
pub next_in_turn-is : (r : Round) →
    MatchOption (next_in_turn r) (NoneIn r.ready 0 r.ready.capacity) (IsNextInTurn r)
next_in_turn-is r = by (most_urgent (to_come r)) (most_urgent-is (to_come r))
    (most_urgent r.ready) (most_urgent-is r.ready)
  where
    by : (o : Option ℕ) →
        MatchOption o (NoneIn (to_come r) 0 r.ready.capacity) (IsMostUrgent (to_come r)) →
        (p : Option ℕ) → MatchOption p (NoneIn r.ready 0 r.ready.capacity) (IsMostUrgent r.ready) →
        MatchOption (found_or o p) (NoneIn r.ready 0 r.ready.capacity) (IsNextInTurn r)
    by (Some task) urgent p _ =
        let parts = and_parts (nat_le r.turn task) (r.ready.has task) urgent.is_ready in
        let from = leb-true r.turn task parts.0 in record {
          within = urgent.within;
          is_ready = parts.1;
          none_before = λ k l e. elim (comes_from r.turn k task e) [
            | inl c ↦ not_to_come r k c.0 (urgent.none_above k c.1)
            | inr c ↦ absurd (omega (arith, c.0, from))
          ];
        }
    by None none None all = all
    by None none (Some task) urgent = record {
      within = urgent.within;
      is_ready = urgent.is_ready;
      none_before = λ k l e. elim (comes_from r.turn k task e) [
        | inl c ↦ not_to_come r k c.0 (none k (omega arith) l)
        | inr c ↦ elim (c.1) [
          | inl from ↦ not_to_come r k from (none k (omega arith) l)
          | inr below ↦ urgent.none_above k below
        ]
      ];
    }

-- if no task from the turn on is ready, `to_come` is empty
none_to_come : (s : PlainSet) (turn from end : ℕ) → NoneIn s turn end →
    NoneIn (to_come (round_at s turn)) from end
none_to_come s turn from end none k p q = elim (cases_lt k turn) [
  | inl l ↦ ap (λ b. b && s.has k) (lt-leb turn k l)
  | inr g ↦ and_right (nat_le turn k) (s.has k) (none k g q)
]

-- a search from the turn up to the number of tasks finds the next task
pub found_from_turn : (s : PlainSet) (turn end task : ℕ) → end ≡ s.capacity →
    IsFirstIn s turn end (Some task) → Some task ≡ next_in_turn (round_at s turn)
found_from_turn s turn end task all first =
    ap (λ o. found_or o (most_urgent s))
    (most_urgent-first (to_come (round_at s turn)) (Some task) (
      omega arith,
      omega (arith, all, first.1),
      ap (λ b. b && s.has task) (le-leb turn task first.0) ∙ first.2,
      none_to_come s turn 0 task first.3,
    ))

-- if that search finds none, a search of the tasks before the turn finds the next task
pub found_before_turn : (s : PlainSet) (turn end : ℕ) (found : Option ℕ) → end ≡ s.capacity →
    turn ≤ end → NoneIn s turn end → IsFirstIn s 0 turn found →
    found ≡ next_in_turn (round_at s turn)
found_before_turn s turn end found all h none first =
    most_urgent-found s end found all (through found first)
    ∙ ap (λ o. found_or o (most_urgent s))
    (most_urgent-found (to_come (round_at s turn)) end None all (none_to_come s turn 0 end none))
  where
    through : (o : Option ℕ) → IsFirstIn s 0 turn o → IsFirstIn s 0 end o
    through None low = λ k p q. elim (cases_lt k turn) [
      | inl l ↦ low k p l
      | inr g ↦ none k g q
    ]
    through (Some task) at = (at.0, omega (arith, at.1), at.2, at.3)

-- the task that was found is the next in turn, or nothing was found and no task is ready
pub next_found : (s : PlainSet) (turn end : ℕ) (found : Option ℕ) → end ≡ s.capacity →
    found ≡ next_in_turn (round_at s turn) →
    MatchOption found (NoneIn s 0 end) (IsNextInTurn (round_at s turn))
next_found s turn end found all e =
    subst (λ n. MatchOption found (NoneIn s 0 n) (IsNextInTurn (round_at s turn))) (sym all)
    (subst (λ o. MatchOption o (NoneIn s 0 s.capacity) (IsNextInTurn (round_at s turn))) (sym e)
    (next_in_turn-is (round_at s turn)))
