-- How many members lie below a number, and which member has a given number of members below it.
use Rattle.std.proofs.Common.{◌≡◌, ℕ, zero, suc, ◌+◌, ◌-◌, ◌*◌, ◌/◌, ◌<◌, ◌≤◌, true, false, not}
use Rattle.std.proofs.Common.{cond, [], ◌∷◌, ◌++◌, length, length-append, append_assoc, ◌⊎◌, Some}
use Rattle.std.proofs.Common.{None, inl, inr, refl, sym, ap, ◌∙◌, arith, min}
use Rattle.std.proofs.Math.Nat.{mul-div_left}
use Rattle.std.specs.Prelude.{slice_get}
use Rattle.std.proofs.lemmas.Bool.{cases_lt, cases_Bool}
use Rattle.std.proofs.lemmas.Option.{slice_get_past, slice_get-get_or}
use Rattle.std.proofs.Math.Seq.{get_or-append_seam}
use Rattle.bittle.specs.PlainSet.{PlainSet, count_below, members_below, ascending_from, ascending}
use Rattle.bittle.specs.PlainSet.{complement, size}
use Rattle.bittle.specs.Searches.{NoneIn}
use Rattle.bittle.proofs.CallerSets.{complement_within}
use Rattle.bittle_bits.proofs.AscendingLists.{ascending_from-length, ascending_from-zero}
use Rattle.bittle_bits.proofs.AscendingLists.{ascending-at, ascending-yes, ascending-no}
use Rattle.bittle_bits.proofs.Counts.{count-add, count-same, count-never, count-others}
use Rattle.bittle_bits.proofs.MembersBelow.{below_between}

-- no member lies below 0
pub below_zero : (s : PlainSet) → members_below s 0 ≡ 0
unfolding count_below
below_zero s = refl

-- a number counts one just if it is a member
next_counts : (s : PlainSet) (i : ℕ) →
    members_below s (suc i) ≡ members_below s i + cond (s.has i) 1 0
unfolding count_below
next_counts s i = refl

pub below_next : (s : PlainSet) (i : ℕ) →
    members_below s (i + 1) ≡ members_below s i + cond (s.has i) 1 0
below_next s i =
    let next : i + 1 ≡ suc i = omega arith in
    ap (members_below s) next ∙ next_counts s i

-- if more members lie below i + 1 than below i, i is a member
pub counted_is_member : (s : PlainSet) (i n : ℕ) → members_below s i ≤ n →
    n < members_below s (i + 1) → (s.has i ≡ true) × (members_below s i ≡ n)
counted_is_member s i n low high =
    elim (cases_Bool (s.has i)) [
      | inl t ↦ let e = below_next s i ∙ ap (λ b. members_below s i + cond b 1 0) t in
          (t, omega (arith, e))
      | inr f ↦ let e = below_next s i ∙ ap (λ b. members_below s i + cond b 1 0) f in
          absurd (omega (arith, e))
    ]

-- a range without members adds nothing to the number of members below
pub below_stays : (s : PlainSet) (from to : ℕ) → from ≤ to → NoneIn s from to →
    members_below s to ≡ members_below s from
below_stays s from to h none =
    let d = to - from in
    let e : from + d ≡ to = omega arith in
    let sum = rw e at (count-add from d s.has) in
    let nothing : count_below d (λ k. s.has (from + k)) ≡ 0 = count-same d (λ k. s.has (from + k))
    (λ _. false) (λ k l. none (from + k) (omega arith) (omega arith)) ∙ count-never d in
    omega (arith, sum, nothing)

-- if no member is at or past c, as many lie below n as below the lesser of n and c
pub below_past : (s : PlainSet) (c n at : ℕ) → ((i : ℕ) → c ≤ i → s.has i ≡ false) → at ≡ min n c →
    members_below s n ≡ members_below s at
below_past s c n at past e =
    elim (cases_lt n c) [
      | inl l ↦ ap (members_below s) (omega (arith, e))
      | inr g ↦ below_stays s c n g (λ k lo hi. past k lo)
          ∙ sym (ap (members_below s) (omega (arith, e)))
    ]

-- of the n numbers below n, each is a member or in the complement
pub below_others : (s : PlainSet) (n : ℕ) → n ≤ s.capacity →
    members_below (complement s) n + members_below s n ≡ n
below_others s n h =
    let others : members_below (complement s) n ≡ count_below n (λ k. not (s.has k)) =
    count-same n (complement s).has (λ k. not (s.has k))
    (λ k l. complement_within s k (omega arith)) in
    omega (arith, others, count-others n s.has)

-- in a range, the members and the other numbers are together as many as its length
pub range_others : (s : PlainSet) (from to n : ℕ) → from ≤ to → to ≤ s.capacity →
    n ≡ members_below (complement s) to - members_below (complement s) from →
    n + (members_below s to - members_below s from) ≡ to - from
range_others s from to n ordered within is =
    let ours = below_between s from to ordered in
    let theirs = below_between (complement s) from to ordered in
    omega (
      arith,
      is,
      ours.0,
      ours.1,
      theirs.0,
      theirs.1,
      below_others s from (omega (arith, ordered, within)),
      below_others s to within,
      ordered,
    )

-- the last word of a capacity of whole words ends at the capacity
pub end_of_words : (w c bits wide k : ℕ) → 0 < w → (words : ℕ) × (c ≡ words * w) → bits ≡ c →
    wide ≡ w → k ≡ bits / wide → k * w ≡ c
end_of_words w c bits wide k word whole is same last =
    rw (last, is, same, whole.1) (ap (λ n. n * w) (mul-div_left whole.0 word))

-- ---- the list

-- a member with n members below it is item n of the increasing list
pub selected : (s : PlainSet) (i n : ℕ) → i < s.capacity → s.has i ≡ true →
    members_below s i ≡ n → Some i ≡ slice_get (ascending s) n
selected s i n h t e =
    let before = ascending_from s.has 0 i in
    let after = ascending_from s.has (suc i) (s.capacity - suc i) in
    let long : length before ≡ n = ascending_from-length s.has i ∙ e in
    sym (ap (λ xs. slice_get xs n) (ascending-at s i h t ∙ append_assoc before (i ∷ []) after)
    ∙ ap (slice_get (before ++ i ∷ after)) (sym long)
    ∙ slice_get-get_or (before ++ i ∷ after) (length before) 0
    (omega (arith, length-append before (i ∷ after)))
    ∙ ap Some (get_or-append_seam before i after 0))

-- the increasing list has no item n if the set has at most n members
pub not_selected : (s : PlainSet) (n : ℕ) → size s ≤ n → None ≡ slice_get (ascending s) n
not_selected s n h = sym (slice_get_past (ascending s) n
    (omega (arith, ascending_from-length s.has s.capacity)))

-- an item of the list from a number on has as many members from there on below it as items before
-- it
counted : (s : PlainSet) (from n r i : ℕ) → slice_get (ascending_from s.has from n) r ≡ Some i →
    members_below s i ≡ members_below s from + r
counted s from zero r i e =
    let gone : slice_get (ascending_from s.has from zero) r ≡ None =
    ap (λ xs. slice_get xs r) (ascending_from-zero s.has from) in
    absurd (cc)
counted s from (suc n) r i e = by (cases_Bool (s.has from)) (counted s (suc from) n) r e
  where
    by : (s.has from ≡ true) ⊎ (s.has from ≡ false) → ((r j : ℕ) →
        slice_get (ascending_from s.has (suc from) n) r ≡ Some j →
        members_below s j ≡ members_below s (suc from) + r) → (r : ℕ) →
        slice_get (ascending_from s.has from (suc n)) r ≡ Some i →
        members_below s i ≡ members_below s from + r
    by (inl t) later zero at =
        let first : slice_get (ascending_from s.has from (suc n)) zero ≡ Some from =
        ap (λ xs. slice_get xs zero) (ascending-yes s.has from n t) in
        let same : from ≡ i = cc in
        omega (arith, ap (members_below s) same)
    by (inl t) later (suc k) at = omega (
      arith,
      later k i (sym (ap (λ xs. slice_get xs (suc k)) (ascending-yes s.has from n t)) ∙ at),
      next_counts s from ∙ ap (λ b. members_below s from + cond b 1 0) t,
    )
    by (inr f) later k at = omega (
      arith,
      later k i (sym (ap (λ xs. slice_get xs k) (ascending-no s.has from n f)) ∙ at),
      next_counts s from ∙ ap (λ b. members_below s from + cond b 1 0) f,
    )

-- item r of the increasing list has r members below it
pub rank_of_item : (s : PlainSet) (r i : ℕ) → slice_get (ascending s) r ≡ Some i →
    members_below s i ≡ r
rank_of_item s r i e = omega (arith, counted s 0 s.capacity r i e, below_zero s)
