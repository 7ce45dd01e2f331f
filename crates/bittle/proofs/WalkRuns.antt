-- An iterator stepped through the first steps of a list.
use Rattle.std.proofs.Common.{◌≡◌, ℕ, ◌+◌, ◌<◌, ◌≤◌, Option, Some, None, List, [], ◌∷◌, ◌++◌}
use Rattle.std.proofs.Common.{length, take, drop, refl, sym, ◌∙◌, ap, arith, set, get_or}
use Rattle.std.proofs.Common.{length-append, append_assoc, add-one, drop-cons, ⊎_elim, take_all}
use Rattle.std.proofs.Common.{le_trans}
use Rattle.std.specs.Prelude.{slice_index}
use Rattle.std.proofs.lemmas.List.Sums.{sum_by-append}
use Rattle.std.proofs.Math.Seq.{take-suc-set, get_or-append_seam}
use Rattle.std.proofs.lemmas.Bool.{cases_lt}
use Rattle.std.proofs.lemmas.List.{get_or_append_left, take-append-le, drop_all, append-nil}
use Rattle.bittle.specs.declared.replay.steps.Step.{Step}
use Rattle.bittle_bits.specs.Walk.{Walk, IsScanBounded, count_after}
use Rattle.bittle.specs.ListEnds.{answer_of, items_left_by, answers_of, items_given, AreScanBounded}

-- the first k steps of `steps` were taken, and they took their items from the list `all`
pub record IsReplayed (k : ℕ) (steps : List Step) (all : List ℕ) (words : ℕ) (walk : Walk)
    (answers : List (Option ℕ)) (scans : List ℕ) : Type 0 where
  pub told : take k answers ++ answers_of (drop k steps) walk.remaining ≡ answers_of steps all
  pub items : walk.items ≡ items_given (take k answers)
  pub words_are : walk.words ≡ words
  pub below : (j : ℕ) → j < length scans → slice_index scans j ≤ walk.scans
  pub last : (j : ℕ) → length scans ≡ j + 1 → slice_index scans j ≡ walk.scans
  pub bounded : AreScanBounded scans (take k answers) words

items_given-append : (xs ys : List (Option ℕ)) →
    items_given (xs ++ ys) ≡ items_given xs + items_given ys
items_given-append xs ys = sum_by-append _ xs ys

count_after-items_given : (n : ℕ) (answer : Option ℕ) →
    n + items_given (answer ∷ []) ≡ count_after n answer
count_after-items_given n None = omega arith
count_after-items_given n (Some x) = omega arith

push_each : (P : ℕ → ℕ → Type 0) (xs : List ℕ) (y : ℕ) →
    ((j : ℕ) → j < length xs → P j (slice_index xs j)) → P (length xs) y →
    (j : ℕ) → j < length (xs ++ y ∷ []) → P j (slice_index (xs ++ y ∷ []) j)
push_each P xs y old new j h =
    ⊎_elim (λ (b : j < length xs). rw (get_or_append_left xs (y ∷ []) 0 j b) (old j b))
    (λ (b : length xs ≤ j). let e : j ≡ length xs = omega (arith, length-append xs (y ∷ [])) in
    rw (e, get_or-append_seam xs y [] 0) new)
    (cases_lt j (length xs))

-- the list of scans stays bounded after one more answer, with the number of scans up to it
pub bounded_push : (scans : List ℕ) (answers : List (Option ℕ)) (words scan : ℕ)
    (answer : Option ℕ) → AreScanBounded scans answers words →
    ((j : ℕ) → j < length scans → slice_index scans j ≤ scan) →
    items_given (answers ++ answer ∷ []) ≤ scan →
    scan ≤ items_given (answers ++ answer ∷ []) + words →
    AreScanBounded (scans ++ scan ∷ []) (answers ++ answer ∷ []) words
bounded_push scans answers words scan answer t below lo hi =
    let early : (j : ℕ) → j < length scans →
    take (j + 1) (answers ++ answer ∷ []) ≡ take (j + 1) answers =
    λ j b. take-append-le (j + 1) answers (answer ∷ []) (omega (arith, t.each)) in
    let late : take (length scans + 1) (answers ++ answer ∷ []) ≡ answers
    ++ answer ∷ [] = take_all _ _ (omega (arith, t.each, length-append answers (answer ∷ [])))
    in
    record {
      each = omega (
        arith,
        t.each,
        length-append answers (answer ∷ []),
        length-append scans (scan ∷ []),
      );
      rise = λ k h. push_each (λ j v. k + 1 ≡ j → slice_index (scans ++ scan ∷ []) k ≤ v) scans scan
          (λ j b e. let c : k < length scans = omega arith in
          rw (← e, get_or_append_left scans (scan ∷ []) 0 k c) (t.rise k (omega arith)))
          (λ e. let c : k < length scans = omega arith in
          rw (get_or_append_left scans (scan ∷ []) 0 k c) (below k c)) (k + 1) h refl;
      at_least = push_each (λ j v. items_given (take (j + 1) (answers ++ answer ∷ [])) ≤ v) scans
          scan (λ j b. rw (early j b) (t.at_least j b)) (rw late lo);
      at_most = push_each (λ j v. v ≤ items_given (take (j + 1) (answers ++ answer ∷ [])) + words)
          scans scan (λ j b. rw (early j b) (t.at_most j b)) (rw late hi);
    }

-- one iteration of the loop in `run`
pub replayed_more : (k : ℕ) (steps : List Step) (all : List ℕ) (words : ℕ) (walk next : Walk)
    (answers : List (Option ℕ)) (scans : List ℕ) (d : Step) (answer : Option ℕ) →
    k < length steps → length answers ≡ length steps →
    IsReplayed k steps all words walk answers scans →
    answer ≡ answer_of (get_or steps k d) walk.remaining →
    next.remaining ≡ items_left_by (get_or steps k d) walk.remaining →
    next.items ≡ count_after walk.items answer → walk.scans ≤ next.scans →
    next.words ≡ walk.words → IsScanBounded next →
    IsReplayed (k + 1) steps all words next (set answers k answer) (scans ++ next.scans ∷ [])
replayed_more k steps all words walk next answers scans d answer h len r a l i o w t =
    let in_answers : k < length answers = omega arith in
    let front : take (k + 1) (set answers k answer) ≡ take k answers
    ++ answer ∷ [] = rw add-one (take-suc-set answers k answer in_answers) in
    let rest : drop k steps ≡ get_or steps k d ∷ drop (k + 1) steps = rw add-one
    (drop-cons steps k d h) in
    let count : items_given (take k answers ++ answer ∷ []) ≡ next.items = items_given-append
    (take k answers) (answer ∷ []) ∙ ap (λ n. n + items_given (answer ∷ [])) (sym r.items)
    ∙ count_after-items_given walk.items answer ∙ sym i in
    record {
      told = rw (front, append_assoc (take k answers) (answer ∷ []), a, l)
          (ap (λ d. take k answers ++ answers_of d walk.remaining) (sym rest) ∙ r.told);
      items = rw front (sym count);
      words_are = w ∙ r.words_are;
      below = push_each (λ j v. v ≤ next.scans) scans next.scans (λ j b. le_trans (r.below j b) o)
          (omega arith);
      last = λ j e. let at : j ≡ length scans = omega
          (arith, e, length-append scans (next.scans ∷ [])) in
          rw at (get_or-append_seam scans next.scans [] 0);
      bounded = rw front (bounded_push scans (take k answers) words next.scans answer r.bounded
          (λ j b. le_trans (r.below j b) o) (rw count t.at_least)
          (rw (count, ← r.words_are, ← w) t.at_most));
    }

-- an iterator with its whole list left, which has yielded nothing, has taken no steps
pub replayed_start : (steps : List Step) (all : List ℕ) (words : ℕ) (walk : Walk)
    (answers : List (Option ℕ)) → walk.remaining ≡ all → walk.items ≡ 0 → walk.words ≡ words →
    IsReplayed 0 steps all words walk answers []
replayed_start steps all words walk answers l i w = record {
  told = ap (answers_of steps) l;
  items = i;
  words_are = w;
  below = λ j b. absurd (omega arith);
  last = λ j e. absurd (omega arith);
  bounded = record {
    each = refl;
    rise = λ k b. absurd (omega arith);
    at_least = λ k b. absurd (omega arith);
    at_most = λ k b. absurd (omega arith);
  };
}

-- after the last step the answers are those of the list and the scans are within their bound; the
-- last number is the iterator's own count of scans
pub replayed_end : (k : ℕ) (steps : List Step) (all : List ℕ) (words : ℕ) (walk : Walk)
    (answers : List (Option ℕ)) (scans : List ℕ) → length steps ≤ k →
    length answers ≡ length steps → IsReplayed k steps all words walk answers scans →
    (answers ≡ answers_of steps all) × AreScanBounded scans answers words
    × ((j : ℕ) → length steps ≡ j + 1 → slice_index scans j ≡ walk.scans)
replayed_end k steps all words walk answers scans h len r =
    let e : take k answers ≡ answers = take_all k answers (omega arith) in
    let f : drop k steps ≡ [] = drop_all k steps h in
    let told : take k answers ++ answers_of (drop k steps) walk.remaining
    ≡ answers_of steps all = r.told in (
      sym (append-nil answers) ∙ (rw (e, f) at told),
      rw e at r.bounded,
      λ j s. r.last j (omega (arith, r.bounded.each, ap length e)),
    )
