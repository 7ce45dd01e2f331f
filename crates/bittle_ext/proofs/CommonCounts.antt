-- How many numbers are members of two sets.
use Rattle.std.proofs.Common.{◌≡◌, ℕ, zero, suc, ◌+◌, ◌*◌, ◌/◌, ◌<◌, ◌≤◌, Bool, true, false, ◌&&◌}
use Rattle.std.proofs.Common.{cond, min, max, Some, refl, sym, ap, ◌∙◌, arith}
use Rattle.std.proofs.Math.Nat.{mul-le-mul_right, div-mul-le_self}
use Rattle.bittle.specs.PlainSet.{PlainSet, count_below, members_below, size}
use Rattle.bittle.specs.SetOperations.{first_alone, just_one}
use Rattle.bittle.specs.Searches.{NoneIn, IsFirstIn}
use Rattle.bittle_bits.proofs.Counts.{count-le}
use Rattle.bittle_ext.specs.Combined.{both_of, just_one_of, CountsBoth}
use Rattle.bittle_ext.specs.RangeMembers.{EndsAt}
use Rattle.bittle_ext.proofs.RankFacts.{below_stays, below_past, below_next}
use Rattle.bittle_ext.proofs.SetFacts.{none_in_both}

-- the counts of two sets, for one number: in the first alone, in just one, and in both
one_number : (a b : Bool) → (cond (first_alone a b) 1 0 + cond (a && b) 1 0 ≡ cond a 1 0)
    × (cond (just_one a b) 1 0 + cond (a && b) 1 0 + cond (a && b) 1 0 ≡ cond a 1 0 + cond b 1 0)
    × (cond (a && b) 1 0 ≤ cond b 1 0)
one_number true true = (refl, refl, omega arith)
one_number true false = (refl, refl, omega arith)
one_number false true = (refl, refl, omega arith)
one_number false false = (refl, refl, omega arith)

-- the numbers in the first set alone plus those in both are as many as the first set has; those in
-- just one, plus twice those in both, are as many as the sets have together; and those in both are
-- at most as many as the second has
pub all_numbers : (n : ℕ) (p q : ℕ → Bool) → (count_below n (λ k. first_alone (p k) (q k))
    + count_below n (λ k. p k && q k) ≡ count_below n p)
    × (count_below n (λ k. just_one (p k) (q k)) + count_below n (λ k. p k && q k)
    + count_below n (λ k. p k && q k) ≡ count_below n p + count_below n q)
    × (count_below n (λ k. p k && q k) ≤ count_below n q)
unfolding count_below
all_numbers zero p q = (refl, refl, omega arith)
all_numbers (suc n) p q =
    let below = all_numbers n p q in
    let here = one_number (p n) (q n) in (
      omega (arith, below.0, here.0),
      omega (arith, below.1, here.1),
      omega (arith, below.2, here.2),
    )

-- if k is below the number of words of c bits, word k ends at or before c
pub word_inside : (w v c k : ℕ) → v ≡ w → k < c / v → (k + 1) * w ≤ c
word_inside w v c k same below =
    let low : k < c / w = rw (← same) below in
    let up : (k + 1) * w ≤ c / w * w = mul-le-mul_right w (omega (arith, low)) in
    omega (arith, up, div-mul-le_self c w)

-- a count of common members stays right: the first set's next member adds 1 exactly if the second
-- set has it
pub counted_next : (s t : PlainSet) (from to index count next : ℕ) (b : Bool) →
    IsFirstIn s from to (Some index) → t.has index ≡ b →
    count ≡ members_below (both_of s t) from → next ≡ count + cond b 1 0 →
    next ≡ members_below (both_of s t) (index + 1)
counted_next s t from to index count next b first is before after =
    let u = both_of s t in
    let stays = below_stays u from index first.0
    (λ k p q. ap (λ a. a && t.has k) (first.3 k p q)) in
    let one : u.has index ≡ b = ap (λ a. a && t.has index) first.2 ∙ is in
    omega (
      arith,
      after,
      before,
      stays,
      below_next u index
          ∙ ap (λ a. members_below u index + cond a 1 0) one,
    )

-- if the first set has no member in from..to, neither has the set of common members
pub counted_all : (s t : PlainSet) (from to : ℕ) → from ≤ to → NoneIn s from to →
    members_below (both_of s t) to ≡ members_below (both_of s t) from
counted_all s t from to h none =
    below_stays (both_of s t) from to h (λ k p q. ap (λ a. a && t.has k) (none k p q))

module _ {s t : PlainSet} {a b : ℕ} (x : EndsAt s a) (y : EndsAt t b) where
  -- all common members of two sets lie below the lesser capacity
  pub all_in_both : (end : ℕ) → end ≡ min a b → members_below (both_of s t) end ≡ size (both_of s t)
  all_in_both end least =
      sym (below_past (both_of s t) end (max s.capacity t.capacity) end
      (none_in_both x y end least) (omega (arith, least, x.capacity, y.capacity)))

  -- the other counts of two sets follow from the number of common members
  pub counts_both : (p q n : ℕ) → p ≡ size s → q ≡ size t → n ≡ size (both_of s t) →
      CountsBoth s t p q n
  counts_both p q n ours theirs is =
      let c = max s.capacity t.capacity in
      let first = below_past s s.capacity c s.capacity x.past (omega arith) in
      let second = below_past t t.capacity c t.capacity y.past (omega arith) in
      let sums = all_numbers c s.has t.has in
      record {
        both = is;
        first_only = omega (arith, sums.0, first, ours, is);
        few = omega (arith, sums.2, second, theirs, is);
        just_one = omega (arith, sums.1, first, second, ours, theirs, is);
        most = count-le c (just_one_of s t).has;
      }
