-- The first run of members, and the state of a search for it.
use Rattle.std.proofs.Common.{◌≡◌, ℕ, zero, suc, nat_le, nat_lt, IfSome, ◌+◌, ◌-◌, ◌*◌, ◌<◌, ◌≤◌}
use Rattle.std.proofs.Common.{Bool, true, false, not, ◌&&◌, Option, Some, None, ◌⊎◌, inl, inr, min}
use Rattle.std.proofs.Common.{sym, ap, ◌∙◌, subst, arith}
use Rattle.std.proofs.Math.Bool.{not-not}
use Rattle.std.proofs.Math.Nat.{lt_of_mul-lt-mul_right, mul-le-mul_right}
use Rattle.std.proofs.lemmas.Bool.{and_parts, cases_lt, ltb-true, true≢false, not-false}
use Rattle.bittle.specs.PlainSet.{PlainSet, complement, is_in_span}
use Rattle.bittle.specs.Searches.{NoneIn, IsFirstIn, IsLastIn}
use Rattle.bittle.specs.Walk.{ones_or_zeros}
use Rattle.bittle.proofs.CallerSets.{complement_within}
use Rattle.bittle_bits.proofs.Spans.{is_in_span-inside}
use Rattle.bittle_ext.specs.RangeMembers.{kind_within, members_within}
use Rattle.bittle_ext.specs.Runs.{cut_off, IsFirstRun, IsRun, NoRunBegins}

-- below the capacity of s, t has exactly the numbers that s lacks
pub record AreOpposite (s t : PlainSet) : Type 0 where
  pub other : (k : ℕ) → k < s.capacity → t.has k ≡ not (s.has k)

-- the bits of one kind are the opposite of those of the other kind
pub others_opposite : (ones : Bool) (s : PlainSet) →
    AreOpposite (ones_or_zeros ones s) (ones_or_zeros (not ones) s)
others_opposite true s = record { other = λ k h. complement_within s k h }
others_opposite false s =
    record { other = λ k h. sym (ap not (complement_within s k h) ∙ not-not (s.has k)) }

-- a set that is cut off is still the opposite of t
pub cut_off_opposite : {s t : PlainSet} → AreOpposite s t → (end : ℕ) → end ≤ s.capacity →
    AreOpposite (cut_off end s) t
cut_off_opposite opposite end low =
    record { other = λ k h. opposite.other k (omega (arith, h, low)) }

-- a set that is cut off at its capacity is unchanged
pub cut_off_whole : (s : PlainSet) (end : ℕ) → end ≡ s.capacity → cut_off end s ≡ s
cut_off_whole s end same = ap (λ n. cut_off n s) same

-- the first run among those that end at or before `stop` is the first among those that end at or
-- before `end`, if it ends there
pub first_run_before : (s : PlainSet) (from n stop end i : ℕ) → end ≤ stop →
    IsFirstRun (cut_off stop s) from n (Some i) → i + n ≤ end →
    IsFirstRun (cut_off end s) from n (Some i)
first_run_before s from n stop end i low first ends = (
  first.0,
  (ends, first.1.1),
  λ k lo hi run. first.2 k lo hi (omega (arith, low, run.0), run.1),
)

-- if the first run among those that end at or before `stop` ends past `end`, no run ends at or
-- before `end`
pub first_run_past : (s : PlainSet) (from n stop end i : ℕ) → end ≤ stop →
    IsFirstRun (cut_off stop s) from n (Some i) → end < i + n →
    IsFirstRun (cut_off end s) from n None
first_run_past s from n stop end i low first past k lo run = elim (cases_lt k i) [
  | inl l ↦ first.2 k lo l (omega (arith, low, run.0), run.1)
  | inr g ↦ omega (arith, g, past, run.0)
]

-- if no run ends at or before `stop`, none ends at or before a lower number
pub no_run_before : (s : PlainSet) (from n stop end : ℕ) → end ≤ stop →
    IsFirstRun (cut_off stop s) from n None → IsFirstRun (cut_off end s) from n None
no_run_before s from n stop end low none k lo run =
    none k lo (omega (arith, low, run.0), run.1)

-- the state of a search for a run of `length` members: none begins before `at`
pub record IsSearched (s : PlainSet) (length from end at : ℕ) : Type 0 where
  pub ordered : from ≤ at
  pub within : at ≤ end
  pub whole : end ≡ s.capacity
  pub some : 0 < length
  pub none_before : NoRunBegins s length from at

module _ {s : PlainSet} {length from end at : ℕ} (p : IsSearched s length from end at) where
  -- if no number of at..to is a member, no run begins before `to`
  none_begin : (to : ℕ) → NoneIn s at to → NoRunBegins s length from to
  none_begin to none k h l run =
      elim (cases_lt k at) [
        | inl b ↦ p.none_before k h b run
        | inr g ↦
            true≢false (sym (run.1 k (omega arith) (omega (arith, p.some))) ∙ none k g l)
      ]

  -- if no member is left, there is no run
  pub none_left : NoneIn s at end → IsFirstRun s from length None
  none_left none k h run =
      none_begin end none k h (omega (arith, p.whole, p.some, run.0)) run

  -- if fewer than `length` numbers are left from the next member on, there is no run
  pub no_room : (start : ℕ) → IsFirstIn s at end (Some start) → end - start < length →
      IsFirstRun s from length None
  no_room start first short k h run =
      none_begin start first.3 k h (omega (arith, p.whole, run.0, short)) run

  -- if no number of the run is in t, the first run begins at the next member
  pub run_found : {t : PlainSet} → AreOpposite s t → (start : ℕ) →
      IsFirstIn s at end (Some start) → length ≤ end - start →
      NoneIn t start (start + length) → IsFirstRun s from length (Some start)
  run_found opposite start first room none = (
    omega (arith, p.ordered, first.0),
    (
      omega (arith, p.whole, room, first.1),
      λ k g l. not-false (s.has k)
          (sym (opposite.other k (omega (arith, p.whole, room, first.1))) ∙ none k g l),
    ),
    none_begin start first.3,
  )

  -- if a number within `length` is in t, the search goes on past the last such number
  pub run_broken : {t : PlainSet} → AreOpposite s t → (start last : ℕ) →
      IsFirstIn s at end (Some start) → length ≤ end - start →
      IsLastIn t start (start + length) (Some last) → IsSearched s length from end (last + 1)
  run_broken opposite start last first room gone = record {
    ordered = omega (arith, p.ordered, first.0, gone.0);
    within = omega (arith, room, first.1, gone.1);
    whole = p.whole;
    some = p.some;
    none_before = λ k h l run. elim (cases_lt k start) [
      | inl b ↦ none_begin start first.3 k h b run
      | inr g ↦
          true≢false (sym gone.2 ∙ opposite.other last (omega (arith, p.whole, room, gone.1))
          ∙ ap not (run.1 last (omega arith) (omega (arith, gone.1))))
    ];
  }

-- if a set, such as a view, is equal to t, its first run of unset bits is that of t
pub first_run_of_same : (s t : PlainSet) (from n : ℕ) (r : Option ℕ) → s ≡ t →
    IsFirstRun (complement s) from n r → IsFirstRun (complement t) from n r
first_run_of_same s t from n r same is =
    subst (λ (u : PlainSet). IsFirstRun (complement u) from n r) same is

-- if a set is equal to t, its first run of members is that of t
pub first_set_run_of_same : (s t : PlainSet) (from n : ℕ) (r : Option ℕ) → s ≡ t →
    IsFirstRun s from n r → IsFirstRun t from n r
first_set_run_of_same s t from n r same is =
    subst (λ (u : PlainSet). IsFirstRun u from n r) same is

-- if v is a range of a set that is equal to t, its first run is that of the range of t
pub first_run_within_same : (v s t : PlainSet) (low high from n : ℕ) (r : Option ℕ) →
    IsFirstRun v from n r → v ≡ members_within s low high → s ≡ t →
    IsFirstRun (members_within t low high) from n r
first_run_within_same v s t low high from n r is outer same = subst
    (λ (u : PlainSet). IsFirstRun u from n r)
    (outer ∙ ap (λ u. members_within u low high) same) is

-- the words that have the numbers before `end` end at or below the capacity, if `end` does
pub words_before : (w c end n : ℕ) → (words : ℕ) × (c ≡ words * w) → end ≤ c →
    n * w < end + w → n * w ≤ c
words_before w c end n whole low near =
    let next : n * w < (whole.0 + 1) * w = omega (arith, whole.1, low, near) in
    let few : n < whole.0 + 1 = lt_of_mul-lt-mul_right w next in
    let least : n ≤ whole.0 = omega (arith, few) in
    omega (arith, whole.1, mul-le-mul_right w least)

-- where the runs of two sets are the same, so is the first one
same_runs : (s t : PlainSet) (from n : ℕ) (r : Option ℕ) →
    ((k : ℕ) → from ≤ k → IsRun s n k → IsRun t n k) →
    ((k : ℕ) → from ≤ k → IsRun t n k → IsRun s n k) → IsFirstRun s from n r →
    IsFirstRun t from n r
same_runs s t from n None there back first = λ k lo run. first k lo (back k lo run)
same_runs s t from n (Some i) there back first =
    (first.0, there i first.0 first.1, λ k lo hi run. first.2 k lo hi (back k lo run))

-- a run in a range ends in it
ends_within : (s : PlainSet) (low high n i : ℕ) → 0 < n → IsRun (members_within s low high) n i →
    i + n ≤ high
ends_within s low high n i some run =
    let k = i + n - 1 in
    let last = run.1 k (omega (arith, some)) (omega (arith, some)) in
    let span = (and_parts (is_in_span low high k) (s.has k) last).0 in
    let below = ltb-true k high ((and_parts (nat_le low k) (nat_lt k high) span).1) in
    omega (arith, some, below)

-- the first run that ends at the end of a range or before is the first one in the range; a run of
-- length 0 may begin at each number up to the capacity
first_within : (s : PlainSet) (from to n end : ℕ) (r : Option ℕ) →
    ((n ≡ 0) × (end ≡ s.capacity)) ⊎ ((0 < n) × (end ≡ min to s.capacity)) →
    IsFirstRun (cut_off end s) from n r → IsFirstRun (members_within s from to) from n r
first_within s from to n end r (inl none) = same_runs (cut_off end s) (members_within s from to)
    from n r
    (λ k lo run. (omega (arith, none.1, run.0), λ j p q. absurd (omega (arith, none.0, p, q))))
    (λ k lo run. (omega (arith, none.1, run.0), λ j p q. absurd (omega (arith, none.0, p, q))))
first_within s from to n end r (inr some) = same_runs (cut_off end s) (members_within s from to)
    from n r
    (λ k lo run. (
      omega (arith, some.1, run.0),
      λ j p q. ap (λ b. b && s.has j) (is_in_span-inside from to j (omega (arith, lo, p))
          (omega (arith, some.1, run.0, q))) ∙ run.1 j p q,
    ))
    (λ k lo run. (
      omega (arith, some.1, run.0, ends_within s from to n k some.0 run),
      λ j p q. (and_parts (is_in_span from to j) (s.has j) (run.1 j p q)).1,
    ))

-- the first run of the bits of a kind, cut off at the end of a range, is the first in that range
pub first_of_kind_within : (ones : Bool) (s : PlainSet) (from to n end : ℕ) (r : Option ℕ) →
    ((n ≡ 0) × (end ≡ s.capacity)) ⊎ ((0 < n) × (end ≡ min to s.capacity)) →
    IsFirstRun (cut_off end (ones_or_zeros ones s)) from n r →
    IsFirstRun (kind_within ones s from to) from n r
first_of_kind_within true s = first_within s
first_of_kind_within false s = first_within (complement s)

-- the first run in a range ends at or before the end of the range
pub run_inside : (s : PlainSet) (low high n : ℕ) (r : Option ℕ) →
    IsFirstRun (members_within s low high) low n r → low ≤ high → IfSome r (λ i. i + n ≤ high)
run_inside s low high n None is ordered = tt
run_inside s low high zero (Some i) is ordered = elim (cases_lt low i) [
  | inl l ↦ absurd (is.2 low (omega arith) l
      (omega (arith, l, is.1.0), λ k h b. absurd (omega (arith, h, b))))
  | inr g ↦ omega (arith, g, ordered)
]
run_inside s low high (suc m) (Some i) is ordered =
    ends_within s low high (suc m) i (omega arith) is.1

-- the first run of the bits of a kind in a range ends at or before the end of the range
pub run_of_kind_inside : (ones : Bool) (s : PlainSet) (low high n : ℕ) (r : Option ℕ) →
    IsFirstRun (kind_within ones s low high) low n r → low ≤ high → IfSome r (λ i. i + n ≤ high)
run_of_kind_inside true s = run_inside s
run_of_kind_inside false s = run_inside (complement s)
