-- What any number of calls of a join return.
use Rattle.std.proofs.Common.{◌≡◌, ℕ, suc, zero, ◌+◌, ◌-◌, ◌<◌, ◌≤◌, Bool, true, false, cond, List}
use Rattle.std.proofs.Common.{[], ◌∷◌, ◌++◌, Some, None, length, drop, slice_index, sym, ap, ◌∙◌}
use Rattle.std.proofs.Common.{subst, arith, zero-add, length-append, add-one}
use Rattle.std.specs.Prelude.{Option, slice_get}
use Rattle.std.specs.Iterator.{Yields, YieldsThen}
use Rattle.std.proofs.iter.runs.Lists.{Yields-both}
use Rattle.bittle_bits.specs.Join.{IsAscendingFrom, Join, JoinsNext, join_steps, IsJoin, EndsAt}
use Rattle.bittle_bits.specs.PlainSet.{ascending_from}

slice_get-append-add : {A : Type 0} (xs ys : List A) (n : ℕ) →
    slice_get (xs ++ ys) (length xs + n) ≡ slice_get ys n
slice_get-append-add [] ys n = ap (slice_get ys) (zero-add n)
slice_get-append-add (x ∷ xs) ys n =
    let e : length (x ∷ xs) + n ≡ suc (length xs + n) = omega arith in
    ap (slice_get (x ∷ (xs ++ ys))) e ∙ slice_get-append-add xs ys n

sooner : (from later : ℕ) (ms : List ℕ) → from ≤ later → IsAscendingFrom later ms →
    IsAscendingFrom from ms
sooner from later [] h a = tt
sooner from later (m ∷ ms) h a = let first = a.0 in (omega arith, a.1)

-- each item of the increasing list is above the one before it
pub ascending-ascends : (p : ℕ → Bool) (from n : ℕ) → IsAscendingFrom from (ascending_from p from n)
unfolding ascending_from
ascending-ascends p from zero = tt
ascending-ascends p from (suc n) =
    let rest : IsAscendingFrom (from + 1) (ascending_from p (suc from) n) = rw add-one
    (ascending-ascends p (suc from) n) in
    by (p from) rest
  where
    by : (b : Bool) → IsAscendingFrom (from + 1) (ascending_from p (suc from) n) →
        IsAscendingFrom from (cond b (from ∷ ascending_from p (suc from) n)
        (ascending_from p (suc from) n))
    by true rest = (omega arith, rest)
    by false rest = sooner from (from + 1) (ascending_from p (suc from) n) (omega arith) rest

-- each item of a list that increases from `from` is at least `from`
place_of_member : (from : ℕ) (ms : List ℕ) (k : ℕ) → IsAscendingFrom from ms → k < length ms →
    from ≤ slice_index ms k
place_of_member from [] k h below = absurd (omega arith)
place_of_member from (m ∷ ms) zero h below = h.0
place_of_member from (m ∷ ms) (suc k) h below =
    omega (arith, h.0, place_of_member (m + 1) ms k h.1 (omega arith))

joined_none : {A : Type 0} (from : ℕ) (ms : List ℕ) → IsJoin {A = A} from ms [] []
joined_none from [] = record {
  among = omega arith;
  given = λ k h. absurd (omega arith);
  long = omega arith;
}
joined_none from (m ∷ ms) = record {
  among = omega arith;
  given = λ k h. absurd (omega arith);
  long = omega arith;
}

joined_more : {A : Type 0} (from m : ℕ) (ms : List ℕ) (passed rest : List A) (y : A) (ys : List A)
    → from + length passed ≡ m → IsAscendingFrom (m + 1) ms → IsJoin (m + 1) ms rest ys →
    IsJoin from (m ∷ ms) (passed ++ y ∷ rest) (y ∷ ys)
joined_more {A} from m ms passed rest y ys at above h = record {
  among = omega (arith, h.among);
  given = given;
  long = omega (arith, h.long, length-append passed (y ∷ rest));
}
  where
    all : List A
    all = passed ++ y ∷ rest

    given : (k : ℕ) → k < length (y ∷ ys) →
        slice_get (y ∷ ys) k ≡ slice_get all (slice_index (m ∷ ms) k - from)
    given zero below =
        let e : length passed + 0 ≡ m - from = omega (arith, at) in
        sym (slice_get-append-add passed (y ∷ rest) 0) ∙ ap (slice_get all) e
    given (suc k) below =
        let p = slice_index ms k in
        let past : m + 1 ≤ p = place_of_member (m + 1) ms k above (omega (arith, h.among)) in
        let e : length passed + suc (p - (m + 1)) ≡ p - from = omega (arith, at, past) in
        h.given k (omega arith) ∙ sym (slice_get-append-add passed (y ∷ rest) (suc (p - (m + 1))))
        ∙ ap (slice_get all) e

module _ {I A : Type 0} (steps : I → Option A → I → Type 0) where
  -- what the calls of a join with these members left return, from its next position on
  abbrev JoinsTo : Join I → List ℕ → List A → Join I → Type 0
  JoinsTo s ms ys t = (taken : List A) × Yields steps s.iter taken t.iter
      × IsJoin s.taken ms taken ys × (t.mask.remaining ≡ drop (length ys) ms)
      × (t.taken ≡ s.taken + length taken) × (t.ended ≡ false)

  one_more : (s j t : Join I) (y : A) (ys : List A) (ms : List ℕ) → IsAscendingFrom s.taken ms →
      JoinsNext steps ms s (Some y) j → JoinsTo j j.mask.remaining ys t → JoinsTo s ms (y ∷ ys) t
  one_more s j t y ys [] ahead step after = absurd (cc (step.0))
  one_more s j t y ys (m ∷ ms) ahead (left, next, (passed, (u, before, last), count))
      (taken, ran, join, rest, many, goes) =
      let at : s.taken + length passed ≡ m = omega (arith, ahead.0, count) in
      let join' : IsJoin (m + 1) ms taken ys = subst (λ n. IsJoin n ms taken ys) next
      (subst (λ l. IsJoin j.taken l taken ys) left join) in (
        passed ++ y ∷ taken,
        Yields-both steps passed (y ∷ taken) s.iter u t.iter before (j.iter, last, ran),
        joined_more s.taken m ms passed taken y ys at ahead.1 join',
        rest ∙ ap (drop (length ys)) left,
        omega (arith, at, next, many, length-append passed (y ∷ taken)),
        goes,
      )

  -- a step to an item leaves members that are ahead
  still_ahead : (s j : Join I) (y : A) (ms : List ℕ) → IsAscendingFrom s.taken ms →
      JoinsNext steps ms s (Some y) j → IsAscendingFrom j.taken j.mask.remaining
  still_ahead s j y [] ahead step = absurd (cc (step.0))
  still_ahead s j y (m ∷ ms) ahead step = subst (λ l. IsAscendingFrom j.taken l) (sym step.0)
      (subst (λ n. IsAscendingFrom n ms) (sym step.1) ahead.1)

  -- what a join returns before its end are the iterator's items at the mask's members
  pub join_answers : (s : Join I) (ys : List A) (t : Join I) →
      IsAscendingFrom s.taken s.mask.remaining →
      s.ended ≡ false → Yields (join_steps steps) s ys t → JoinsTo s s.mask.remaining ys t
  join_answers s [] t ahead goes h = (
    [],
    ap (λ j. j.iter) h,
    joined_none s.taken s.mask.remaining,
    ap (λ j. j.mask.remaining) (sym h),
    omega (arith, ap (λ j. j.taken) h),
    ap (λ j. j.ended) (sym h)
        ∙ goes,
  )
  join_answers s (y ∷ ys) t ahead goes (j, step, rest) =
      one_more s j t y ys s.mask.remaining ahead (step.2 goes)
      (join_answers j ys t (still_ahead s j y s.mask.remaining ahead (step.2 goes)) step.0 rest)

  -- the members that are left stay ahead, however many items were returned
  ahead_after : (s : Join I) (ys : List A) (t : Join I) → IsAscendingFrom s.taken s.mask.remaining →
      s.ended ≡ false → Yields (join_steps steps) s ys t → IsAscendingFrom t.taken t.mask.remaining
  ahead_after s [] t ahead goes h = subst (λ j. IsAscendingFrom j.taken j.mask.remaining) h ahead
  ahead_after s (y ∷ ys) t ahead goes (j, step, rest) = ahead_after j ys t
      (still_ahead s j y s.mask.remaining ahead (step.2 goes)) step.0 rest

  at_end : (s u t : Join I) (taken : List A) (ms : List ℕ) → Yields steps s.iter taken u.iter →
      u.taken ≡ s.taken + length taken → IsAscendingFrom u.taken ms → JoinsNext steps ms u None t →
      EndsAt steps s taken ms t
  at_end s u t taken [] ran many ahead step = subst (Yields steps s.iter taken) (sym step.2) ran
  at_end s u t taken (m ∷ ms) ran many ahead (left, next, (last, (v, before, end), count)) = (
    last,
    (v, Yields-both steps taken last s.iter u.iter v ran before, end),
    omega (arith, ahead.0, count, many, length-append taken last),
  )

  -- a join ends after the last member, or at a member that the iterator does not reach
  pub join_end : (s : Join I) (ys : List A) (t : Join I) →
      IsAscendingFrom s.taken s.mask.remaining →
      s.ended ≡ false → YieldsThen (join_steps steps) s ys None t
      → (taken : List A) × IsJoin s.taken s.mask.remaining taken ys
      × EndsAt steps s taken (drop (length ys) s.mask.remaining) t
  join_end s ys t before goes (u, calls, step) =
      let (taken, ran, join, left, many, goes') = join_answers s ys u before goes calls in
      let ms = drop (length ys) s.mask.remaining in
      let ahead : IsAscendingFrom u.taken ms = subst (IsAscendingFrom u.taken) left
      (ahead_after s ys u before goes calls) in
      let next : JoinsNext steps ms u None t = subst (λ l. JoinsNext steps l u None t) left
      (step.2 goes') in
      (taken, join, at_end s u t taken ms ran many ahead next)
