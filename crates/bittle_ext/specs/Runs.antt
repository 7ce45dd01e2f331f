-- Runs of neighbours that are members.
use Rattle.std.specs.Prelude.{◌≡◌, ℕ, zero, suc, ◌+◌, ◌-◌, ◌<◌, ◌≤◌, ◌==◌, Bool, true, false, cond}
use Rattle.std.specs.Prelude.{List, [], ◌∷◌, length, slice_index_or, Option, Some, None}
use Rattle.std.specs.Iterator.{YieldsFirst, YieldsLast}
use Rattle.std.specs.Iterator.Runs.{YieldsInOrder, YieldsInReverse}
use Rattle.std.specs.declared.ops.Range.{Range}
use Rattle.bittle.specs.PlainSet.{PlainSet}
use Rattle.bittle_ext.specs.RangeMembers.{HasAllIn}

-- the `length` numbers from `from` on are all members, and all are below the capacity
abbrev pub IsRun : PlainSet → ℕ → ℕ → Type 0
IsRun s length from =
    (from + length ≤ s.capacity) × ((k : ℕ) → from ≤ k → k < from + length → s.has k ≡ true)

-- no run of `length` members begins in from..to
abbrev pub NoRunBegins : PlainSet → ℕ → ℕ → ℕ → Type 0
NoRunBegins s length from to = (k : ℕ) → from ≤ k → k < to → IsRun s length k → ⊥

-- the option is the least number, `from` or greater, at which a run of `length` members begins, or
-- None if there is no such run
abbrev pub IsFirstRun : PlainSet → ℕ → ℕ → Option ℕ → Type 0
IsFirstRun s from length None = (k : ℕ) → from ≤ k → IsRun s length k → ⊥
IsFirstRun s from length (Some i) =
    (from ≤ i) × IsRun s length i × NoRunBegins s length from i

-- the set with its capacity changed to `end`: its runs are those that end at or before `end`
abbrev pub cut_off : ℕ → PlainSet → PlainSet
cut_off end s = record { capacity = end; has = s.has }

-- the numbers from `start` on and before `end`
abbrev pub run : ℕ → ℕ → Range ℕ
run start end = record { start = start; end = end }

-- a list of runs with one more number before them: k joins the first run if that run begins right
-- after k, else k is a run of its own
unfoldable pub joined : ℕ → List (Range ℕ) → List (Range ℕ)
joined k [] = run k (suc k) ∷ []
joined k (r ∷ rs) = cond (r.start == suc k) (run k r.end ∷ rs) (run k (suc k) ∷ r ∷ rs)

-- the maximal runs of numbers that pass the test p, in increasing order; only the n numbers from
-- `from` on are looked at
unfoldable pub runs_from : (ℕ → Bool) → ℕ → ℕ → List (Range ℕ)
runs_from p from zero = []
runs_from p from (suc n) = cond (p from) (joined from (runs_from p (suc from) n))
    (runs_from p (suc from) n)

-- the maximal runs of members in from..to, in increasing order
unfoldable pub runs_between : PlainSet → ℕ → ℕ → List (Range ℕ)
runs_between s from to = runs_from s.has from (to - from)

-- the maximal runs of members
abbrev pub runs : PlainSet → List (Range ℕ)
runs s = runs_between s 0 s.capacity

-- no run of the list is empty or ends past c; there are at most c runs
abbrev pub AreRunsBelow : ℕ → List (Range ℕ) → Type 0
AreRunsBelow c rs = (length rs ≤ c) × ((k : ℕ) (d : Range ℕ) → k < length rs →
    ((slice_index_or rs k d).start < (slice_index_or rs k d).end)
    × ((slice_index_or rs k d).end ≤ c))

-- r is a run of at least one member, and ends at or before the capacity; no number below the
-- capacity that lies right before or right after r is a member
abbrev pub IsMaximalRun : PlainSet → Range ℕ → Type 0
IsMaximalRun s r = (r.start < r.end) × (r.end ≤ s.capacity) × HasAllIn s r.start r.end
    × (0 < r.start → s.has (r.start - 1) ≡ false) × (r.end < s.capacity → s.has r.end ≡ false)

-- each of the runs is maximal, each later run begins past the earlier ones, and each member lies in
-- a run
pub record HasMaximalRuns (s : PlainSet) : Type 0 where
  pub maximal : (k : ℕ) (d : Range ℕ) → k < length (runs s) →
      IsMaximalRun s (slice_index_or (runs s) k d)
  pub rise : (j k : ℕ) (d : Range ℕ) → j < k → k < length (runs s) →
      (slice_index_or (runs s) j d).end ≤ (slice_index_or (runs s) k d).start
  pub all : (i : ℕ) → i < s.capacity → s.has i ≡ true → (k : ℕ) × (k < length (runs s))
      × ((d : Range ℕ) → ((slice_index_or (runs s) k d).start ≤ i)
      × (i < (slice_index_or (runs s) k d).end))

-- the runs of every set are maximal
abbrev pub RunsAreMaximal : Type 0
RunsAreMaximal = (s : PlainSet) → HasMaximalRuns s

-- steps from the front yield the runs of a list in order
abbrev pub RunsInOrder : Type 0
RunsInOrder = YieldsInOrder (YieldsFirst (λ (rs : List (Range ℕ)). rs)) (λ rs. rs)

-- steps from the back yield the runs of a list in reverse
abbrev pub RunsInReverse : Type 0
RunsInReverse = YieldsInReverse (YieldsLast (λ (rs : List (Range ℕ)). rs)) (λ rs. rs)
