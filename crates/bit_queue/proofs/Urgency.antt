-- The most urgent ready task, and how a search finds it.
use Rattle.std.proofs.Common.{◌≡◌, ℕ, ◌+◌, ◌<◌, ◌≤◌, ◌↔◌, Bool, true, false, not, cond, ◌&&◌, ◌||◌}
use Rattle.std.proofs.Common.{◌==◌, nat_lt, Option, Some, None, List, [], ◌∷◌, inl, inr, refl, sym}
use Rattle.std.proofs.Common.{ap, ◌∙◌, subst, arith}
use Rattle.std.proofs.lemmas.Bool.{cases_lt, eq-eqb, eqb-true, ne_eqb, lt-ltb, ltb-true, and_parts}
use Rattle.std.proofs.lemmas.Bool.{and_right, true≢false}
use Rattle.std.specs.Prelude.{MatchOption, IsSome, IsTrue, slice_get}
use Rattle.bittle.specs.PlainSet.{PlainSet, ascending, contains, with_index, without_index, size}
use Rattle.bittle.specs.Searches.{NoneIn, IsFirstIn}
use Rattle.bittle.proofs.CallerLists.{ascending_none, ascending_first}
use Rattle.bittle.proofs.CallerChanges.{size_inserted, size_without}
use Rattle.bittle.proofs.CallerSets.{contains_within, with_index_within, without_index_within}
use Rattle.bittle.proofs.CallerSets.{size_none, size_some, size_zero}
use Rattle.bit_queue.specs.Queue.{is_ready, most_urgent, with_task, without_task, with_woken}
use Rattle.bit_queue.specs.Queue.{with_removed}
use Rattle.bit_queue.specs.QueueLaws.{IsMostUrgent}

-- `most_urgent` is the most urgent ready task, or None if no task is ready
pub most_urgent-is : (s : PlainSet) →
    MatchOption (most_urgent s) (NoneIn s 0 s.capacity) (IsMostUrgent s)
most_urgent-is s = by (ascending s) refl
  where
    by : (tasks : List ℕ) → ascending s ≡ tasks →
        MatchOption (slice_get tasks 0) (NoneIn s 0 s.capacity) (IsMostUrgent s)
    by [] e = ascending_none s e
    by (task ∷ rest) e =
        let first = ascending_first s task rest e in record {
          within = first.1;
          is_ready = first.2;
          none_above = λ k l. first.3 k (omega arith) l;
        }

-- there is just one most urgent task
one_most_urgent : (s : PlainSet) (p q : ℕ) → IsMostUrgent s p → IsMostUrgent s q → p ≡ q
one_most_urgent s p q a b =
    elim (cases_lt p q) [
      | inl l ↦ absurd (true≢false (sym a.is_ready ∙ b.none_above p l))
      | inr g ↦ elim (cases_lt q p) [
        | inl l ↦ absurd (true≢false (sym b.is_ready ∙ a.none_above q l))
        | inr h ↦ omega arith
      ]
    ]

-- a search of all tasks finds the most urgent one
pub most_urgent-first : (s : PlainSet) (found : Option ℕ) → IsFirstIn s 0 s.capacity found →
    found ≡ most_urgent s
most_urgent-first s None none = by (most_urgent s) (most_urgent-is s)
  where
    by : (o : Option ℕ) → MatchOption o (NoneIn s 0 s.capacity) (IsMostUrgent s) → None ≡ o
    by None all = refl
    by (Some q) urgent =
        absurd (true≢false (sym urgent.is_ready ∙ none q (omega arith) urgent.within))
most_urgent-first s (Some p) first = by (most_urgent s) (most_urgent-is s)
  where
    found : IsMostUrgent s p
    found = record {
      within = first.1;
      is_ready = first.2;
      none_above = λ k l. first.3 k (omega arith) l;
    }

    by : (o : Option ℕ) → MatchOption o (NoneIn s 0 s.capacity) (IsMostUrgent s) → Some p ≡ o
    by None all = absurd (true≢false (sym found.is_ready ∙ all p (omega arith) found.within))
    by (Some q) urgent = ap Some (one_most_urgent s p q found urgent)

-- `most_urgent` finds the task that is the most urgent one
pub most_urgent-of : (s : PlainSet) (task : ℕ) → IsMostUrgent s task → most_urgent s ≡ Some task
most_urgent-of s task urgent = sym (most_urgent-first s (Some task) (
  omega arith,
  urgent.within,
  urgent.is_ready,
  λ k _ l. urgent.none_above k l,
))

-- so does a search up to `end`, if that is the number of tasks
pub most_urgent-found : (s : PlainSet) (end : ℕ) (found : Option ℕ) → end ≡ s.capacity →
    IsFirstIn s 0 end found → found ≡ most_urgent s
most_urgent-found s end found e first =
    most_urgent-first s found (subst (λ n. IsFirstIn s 0 n found) e first)

-- the task that was found is the most urgent one, or nothing was found and no task is ready
pub urgent_found : (s : PlainSet) (end : ℕ) (found : Option ℕ) → end ≡ s.capacity →
    found ≡ most_urgent s → MatchOption found (NoneIn s 0 end) (IsMostUrgent s)
urgent_found s end found all e =
    subst (λ n. MatchOption found (NoneIn s 0 n) (IsMostUrgent s)) (sym all)
    (subst (λ o. MatchOption o (NoneIn s 0 s.capacity) (IsMostUrgent s)) (sym e)
    (most_urgent-is s))

-- the number of ready tasks is 0 exactly if no task is ready
pub none_ready : (s : PlainSet) (end : ℕ) (none : Bool) → end ≡ s.capacity →
    none ≡ (size s == 0) → IsTrue none ↔ NoneIn s 0 end
none_ready s end none all e = (
  λ is. subst (λ n. NoneIn s 0 n) (sym all) (size_none s (eqb-true (size s) 0 (sym e ∙ is))),
  λ empty. e ∙ eq-eqb (size s) 0 (size_zero s (subst (λ n. NoneIn s 0 n) all empty)),
)

-- a ready task was found and some task is ready, or nothing was found and none is ready
pub found_counts : (s : PlainSet) (end : ℕ) (found : Option ℕ) (P : ℕ → Type 0) →
    end ≡ s.capacity → ((k : ℕ) → P k → (k < s.capacity) × (s.has k ≡ true)) →
    MatchOption found (NoneIn s 0 end) P → MatchOption found (size s ≡ 0) (λ _. 0 < size s)
found_counts s end None P all ready none = size_zero s (subst (λ n. NoneIn s 0 n) all none)
found_counts s end (Some task) P all ready found =
    let is = ready task found in size_some s task is.0 is.1

-- a test of the set shows whether a task is ready
pub is_ready-within : (s : PlainSet) (task : ℕ) → task < s.capacity →
    is_ready s task ≡ contains s task
is_ready-within s task h = ap (λ b. b && s.has task) (lt-ltb task s.capacity h)
    ∙ sym (contains_within s task h)

-- a member below the capacity is a ready task
pub ready-member : (s : PlainSet) (task : ℕ) → task < s.capacity → s.has task ≡ true →
    is_ready s task ≡ true
ready-member s task h e = ap (λ b. b && s.has task) (lt-ltb task s.capacity h) ∙ e

-- a count that grows by one or stays
pub grows_by_one : (n m : ℕ) (b : Bool) → m ≡ n + cond b 1 0 → (n ≤ m) × (m ≤ n + 1)
grows_by_one n m true e = (omega (arith, e), omega (arith, e))
grows_by_one n m false e = (omega (arith, e), omega (arith, e))

-- the set with a task that was woken
module _ (s t : PlainSet) (task : ℕ) (h : task < s.capacity) (after : t ≡ with_index s task) where
  pub is_woken : t ≡ with_woken s task
  is_woken = after ∙ with_index_within s task h
      ∙ ap (λ b. cond b (with_task s task) s) (sym (lt-ltb task s.capacity h))

  pub is_now_ready : is_ready t task ≡ true
  is_now_ready = ap (λ u. is_ready u task) (after ∙ with_index_within s task h)
      ∙ ap (λ b. b && ((task == task) || s.has task)) (lt-ltb task s.capacity h)
      ∙ ap (λ b. b || s.has task) (eq-eqb task task refl)

  pub is_counted : size t ≡ size s + cond (not (is_ready s task)) 1 0
  is_counted = ap size after ∙ size_inserted s task (omega (arith, h))
      ∙ ap (λ b. size s + cond (not b) 1 0) (sym (is_ready-within s task h))

  pub wakes_no_other : (other : ℕ) → (other ≡ task → ⊥) → is_ready t other ≡ is_ready s other
  wakes_no_other other apart = ap (λ u. is_ready u other) (after ∙ with_index_within s task h)
      ∙ ap (λ b. nat_lt other s.capacity && (b || s.has other)) (ne_eqb other task apart)

-- the set without a task that runs
module _
    (s t : PlainSet) (task : ℕ) (h : task < s.capacity) (after : t ≡ without_index s task) where
  pub is_taken_out : t ≡ without_task s task
  is_taken_out = after ∙ without_index_within s task h

  pub one_fewer : s.has task ≡ true → size s ≡ size t + 1
  one_fewer some = size_without s task h some ∙ sym (ap (λ u. size u + 1) after)

  pub now_rests : is_ready t task ≡ false
  now_rests = ap (λ u. is_ready u task) is_taken_out
      ∙ ap (λ b. nat_lt task s.capacity && (not b && s.has task)) (eq-eqb task task refl)
      ∙ and_right (nat_lt task s.capacity) false refl

  pub takes_no_other : (other : ℕ) → (Some task ≡ Some other → ⊥) →
      is_ready t other ≡ is_ready s other
  takes_no_other other apart = ap (λ u. is_ready u other) is_taken_out
      ∙ ap (λ b. nat_lt other s.capacity && (not b && s.has other))
      (ne_eqb other task (λ e. apart (ap Some (sym e))))

-- the set without a task that was ready and is removed
module _ (s t : PlainSet) (task : ℕ) (ready : true ≡ is_ready s task)
    (after : t ≡ without_index s task) where
  was_within : task < s.capacity
  was_within =
      ltb-true task s.capacity (and_parts (nat_lt task s.capacity) (s.has task) (sym ready)).0

  was_member : s.has task ≡ true
  was_member = (and_parts (nat_lt task s.capacity) (s.has task) (sym ready)).1

  pub is_removed : t ≡ with_removed s task
  is_removed = is_taken_out s t task was_within after
      ∙ ap (λ b. cond b (without_task s task) s) ready

  pub removed_rests : is_ready t task ≡ false
  removed_rests = now_rests s t task was_within after

  pub removed_is_counted : size s ≡ size t + 1
  removed_is_counted = one_fewer s t task was_within after was_member

  pub removes_no_other : (other : ℕ) → (other ≡ task → ⊥) → is_ready t other ≡ is_ready s other
  removes_no_other other apart = takes_no_other s t task was_within after other
      (λ e. apart (let same : task ≡ other = cc in sym same))

-- a search that tells whether a set has a member finds one if there is one
pub found_if_any : (n : ℕ) (o : Option ℕ) → MatchOption o (n ≡ 0) (λ _. 0 < n) → 0 < n → IsSome o
found_if_any n None none any = absurd (omega (arith, none, any))
found_if_any n (Some k) some any = refl
