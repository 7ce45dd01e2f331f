-- The runs of a set are maximal, and each member lies in one of them.
use Rattle.std.proofs.Common.{◌≡◌, ℕ, zero, suc, ◌+◌, ◌-◌, ◌<◌, ◌≤◌, Bool, true, false, List, []}
use Rattle.std.proofs.Common.{◌∷◌, length, ◌⊎◌, inl, inr, sym, ap, ◌∙◌, arith}
use Rattle.std.proofs.lemmas.Bool.{cases_Bool, cases_eq, cases_lt, eq-eqb, ne_eqb, true≢false}
use Rattle.std.specs.Prelude.{slice_index_or}
use Rattle.std.specs.declared.ops.Range.{Range}
use Rattle.bittle.specs.PlainSet.{PlainSet}
use Rattle.bittle_ext.specs.Runs.{joined, runs_from, runs_between, runs, IsMaximalRun}
use Rattle.bittle_ext.specs.Runs.{HasMaximalRuns, RunsAreMaximal}

-- a number lies in a run of the list
abbrev LiesIn : ℕ → List (Range ℕ) → Type 0
LiesIn i [] = ⊥
LiesIn i (r ∷ rs) = ((r.start ≤ i) × (i < r.end)) ⊎ LiesIn i rs

place_in : (i : ℕ) (rs : List (Range ℕ)) → LiesIn i rs → (k : ℕ) × (k < length rs)
    × ((d : Range ℕ) → ((slice_index_or rs k d).start ≤ i) × (i < (slice_index_or rs k d).end))
place_in i [] h = absurd h
place_in i (r ∷ rs) (inl h) = (0, omega arith, λ d. h)
place_in i (r ∷ rs) (inr h) =
    let at = place_in i rs h in
    (suc at.0, omega (arith, at.1), at.2)

module _ (p : ℕ → Bool) where
  -- no number from one on and below another passes
  abbrev NonePass : ℕ → ℕ → Type 0
  NonePass from to = (k : ℕ) → from ≤ k → k < to → p k ≡ false

  -- the runs of the list lie in from..to and cannot be longer, and no number between them passes
  -- the test
  abbrev pub AreMaximal : ℕ → ℕ → List (Range ℕ) → Type 0
  AreMaximal from to [] = NonePass from to
  AreMaximal from to (r ∷ rs) =
      (from ≤ r.start) × (r.start < r.end) × (r.end ≤ to)
      × ((k : ℕ) → r.start ≤ k → k < r.end → p k ≡ true) × NonePass from r.start
      × (r.end < to → p r.end ≡ false) × AreMaximal r.end to rs

  none_more : (from to : ℕ) → p from ≡ false → NonePass (suc from) to → NonePass from to
  none_more from to gone none k lo hi =
      elim (cases_eq k from) [
        | inl e ↦ ap p e ∙ gone
        | inr n ↦ none k (omega (arith, n)) hi
      ]

  -- a number that does not pass leaves the runs after it maximal
  gone_before : (from to : ℕ) (rs : List (Range ℕ)) → p from ≡ false →
      AreMaximal (suc from) to rs → AreMaximal from to rs
  gone_before from to [] gone h = none_more from to gone h
  gone_before from to (r ∷ rs) gone h =
      (omega (arith, h.0), h.1, h.2, h.3, none_more from r.start gone h.4, h.5, h.6)

  -- one that passes joins them, or is a run of its own
  joined_maximal : (from to : ℕ) (rs : List (Range ℕ)) → from < to → p from ≡ true →
      AreMaximal (suc from) to rs → AreMaximal from to (joined from rs)
  unfolding joined
  joined_maximal from to [] low here h = (
    omega arith,
    omega arith,
    low,
    λ k a b. ap p (omega arith) ∙ here,
    λ k a b. absurd (omega arith),
    λ l. h (suc from) (omega arith) l,
    h,
  )
  joined_maximal from to (r ∷ rs) low here h =
      elim (cases_eq r.start (suc from)) [
        | inl e ↦ rw (eq-eqb r.start (suc from) e) (
          omega arith,
          omega (arith, h.0, h.1),
          h.2,
          λ k a b. elim (cases_eq k from) [
            | inl same ↦ ap p same ∙ here
            | inr other ↦ h.3 k (omega (arith, e, other)) b
          ],
          λ k a b. absurd (omega arith),
          h.5,
          h.6,
        )
        | inr n ↦ rw (ne_eqb r.start (suc from) n) (
          omega arith,
          omega arith,
          low,
          λ k a b. ap p (omega arith) ∙ here,
          λ k a b. absurd (omega arith),
          λ l. h.4 (suc from) (omega arith) (omega (arith, n, h.0)),
          h,
        )
      ]

  pub runs_maximal : (from n to : ℕ) → to ≡ from + n → AreMaximal from to (runs_from p from n)
  unfolding runs_from
  runs_maximal from zero to e = λ k lo hi. absurd (omega arith)
  runs_maximal from (suc n) to e =
      let rest = runs_maximal (suc from) n to (omega arith) in
      elim (cases_Bool (p from)) [
        | inl here ↦ rw here
            (joined_maximal from to (runs_from p (suc from) n) (omega arith) here rest)
        | inr gone ↦ rw gone (gone_before from to (runs_from p (suc from) n) gone rest)
      ]

  -- so each number that passes lies in one
  maximal_have : (from to i : ℕ) (rs : List (Range ℕ)) → from ≤ i → i < to → p i ≡ true →
      AreMaximal from to rs → LiesIn i rs
  maximal_have from to i [] lo hi here h = true≢false (sym here ∙ h i lo hi)
  maximal_have from to i (r ∷ rs) lo hi here h =
      elim (cases_lt i r.start) [
        | inl l ↦ absurd (true≢false (sym here ∙ h.4 i lo l))
        | inr g ↦ elim (cases_lt i r.end) [
          | inl l ↦ inl (g, l)
          | inr past ↦ inr (maximal_have r.end to i rs past hi here h.6)
        ]
      ]

-- each run of a list of maximal ones is one
maximal_at : (s : PlainSet) (from : ℕ) (rs : List (Range ℕ)) (k : ℕ) (d : Range ℕ) →
    (0 < from → from < s.capacity → s.has from ≡ true → s.has (from - 1) ≡ false) →
    k < length rs → AreMaximal s.has from s.capacity rs → IsMaximalRun s (slice_index_or rs k d)
maximal_at s from [] k d edge l h = absurd (omega arith)
maximal_at s from (r ∷ rs) zero d edge l h = (
  h.1,
  h.2,
  h.3,
  λ some. elim (cases_eq r.start from) [
    | inl e ↦ ap s.has (omega (arith, e)) ∙ edge (omega (arith, e, some))
        (omega (arith, e, h.1, h.2)) (ap s.has (sym e) ∙ h.3 r.start (omega arith) h.1)
    | inr n ↦ h.4 (r.start - 1) (omega (arith, n, h.0)) (omega (arith, n, h.0))
  ],
  h.5,
)
maximal_at s from (r ∷ rs) (suc k) d edge l h =
    maximal_at s r.end rs k d (λ some low here. absurd (true≢false (sym here ∙ h.5 low)))
    (omega arith) h.6

-- a list begins from its first number on, and a later run begins where the one before ends or later
starts_from : (p : ℕ → Bool) (from to : ℕ) (rs : List (Range ℕ)) (k : ℕ) (d : Range ℕ) →
    k < length rs → AreMaximal p from to rs → from ≤ (slice_index_or rs k d).start
starts_from p from to [] k d l h = absurd (omega arith)
starts_from p from to (r ∷ rs) zero d l h = h.0
starts_from p from to (r ∷ rs) (suc k) d l h =
    let later = starts_from p r.end to rs k d (omega arith) h.6 in
    omega (arith, later, h.0, h.1)

rise : (p : ℕ → Bool) (from to : ℕ) (rs : List (Range ℕ)) (j k : ℕ) (d : Range ℕ) → j < k →
    k < length rs → AreMaximal p from to rs →
    (slice_index_or rs j d).end ≤ (slice_index_or rs k d).start
rise p from to [] j k d o l h = absurd (omega arith)
rise p from to (r ∷ rs) j zero d o l h = absurd (omega arith)
rise p from to (r ∷ rs) zero (suc k) d o l h = starts_from p r.end to rs k d (omega arith) h.6
rise p from to (r ∷ rs) (suc j) (suc k) d o l h =
    rise p r.end to rs j k d (omega arith) (omega arith) h.6

has_maximal_runs : (s : PlainSet) → HasMaximalRuns s
unfolding runs_between
has_maximal_runs s =
    let maximal = runs_maximal s.has 0 (s.capacity - 0) s.capacity (omega arith) in
    record {
      maximal = λ k d l. maximal_at s 0 (runs s) k d (λ some low here. absurd (omega arith)) l
          maximal;
      rise = λ j k d o l. rise s.has 0 s.capacity (runs s) j k d o l maximal;
      all = λ i l here. place_in i (runs s)
          (maximal_have s.has 0 s.capacity i (runs s) (omega arith) l here maximal);
    }

pub runs_are_maximal : RunsAreMaximal
runs_are_maximal s = has_maximal_runs s
