-- How many runs a list has, how far they reach, and in which order steps yield them.
use Rattle.std.proofs.Common.{◌≡◌, ℕ, zero, suc, ◌-◌, ◌≤◌, ◌==◌, Bool, true, false, cond, List, []}
use Rattle.std.proofs.Common.{◌∷◌, length, ap, arith}
use Rattle.std.specs.Iterator.{YieldsFirst, YieldsLast}
use Rattle.std.proofs.iter.runs.Sources.{from_front, from_back, as_is, as_is_back}
use Rattle.std.specs.declared.ops.Range.{Range}
use Rattle.bittle.specs.PlainSet.{PlainSet}
use Rattle.bittle_ext.specs.Runs.{run, joined, runs_from, runs_between, runs, AreRunsBelow}
use Rattle.bittle_ext.specs.Runs.{RunsInOrder, RunsInReverse}
use Rattle.bittle_ext.proofs.MaximalRuns.{runs_are_maximal}

-- one number more adds at most one run
joined_length : (k : ℕ) (rs : List (Range ℕ)) → length (joined k rs) ≤ suc (length rs)
unfolding joined
joined_length k [] = omega arith
joined_length k (r ∷ rs) =
    elim (r.start == suc k) as (λ b. length (cond b (run k r.end ∷ rs)
    (run k (suc k) ∷ r ∷ rs)) ≤ suc (suc (length rs))) [ true ↦ omega arith | false ↦ omega arith ]

-- n numbers have at most n runs
runs_length : (p : ℕ → Bool) (from n : ℕ) → length (runs_from p from n) ≤ n
unfolding runs_from
runs_length p from zero = omega arith
runs_length p from (suc n) =
    let rest = runs_length p (suc from) n in
    let more = joined_length from (runs_from p (suc from) n) in
    elim (p from) as (λ b. length (cond b (joined from (runs_from p (suc from) n))
    (runs_from p (suc from) n)) ≤ suc n)
    [ true ↦ omega (arith, more) | false ↦ omega (arith, rest) ]

-- the runs of a set end at or before its capacity, and are at most as many as the capacity
pub are_runs_below : (s : PlainSet) (c : ℕ) (rs : List (Range ℕ)) → s.capacity ≡ c →
    rs ≡ runs s → AreRunsBelow c rs
unfolding runs_between
are_runs_below s c rs is e = rw e (
  omega (arith, is, runs_length s.has 0 (s.capacity - 0)),
  λ k d l. let at = (runs_are_maximal s).maximal k d l in (at.0, omega (arith, is, at.1)),
)

-- steps from the front yield a list of runs in order; steps from the back yield it in reverse
pub runs_in_order : RunsInOrder
runs_in_order p seen = as_is p p.from (from_front (YieldsFirst (λ (left : List (Range ℕ)). left))
    (λ x. x) (λ left. left) (λ s t h. ap length h.0) (λ s x t h. h) p seen)

pub runs_in_reverse : RunsInReverse
runs_in_reverse p seen = as_is_back p p.from
    (from_back (YieldsLast (λ (left : List (Range ℕ)). left)) (λ x. x) (λ left. left)
    (λ s t h. ap length h.0) (λ s x t h. h) p seen)
