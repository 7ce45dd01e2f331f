-- What a search of a whole set tells of the size, and what the bits of a range tell of its count.
use Rattle.std.proofs.Common.{◌≡◌, ℕ, ◌+◌, ◌-◌, ◌<◌, true, inl, inr, Option, Some, None}
use Rattle.std.proofs.Common.{MatchOption, ◌∙◌, arith}
use Rattle.std.proofs.lemmas.Bool.{cases_lt}
use Rattle.bittle_bits.proofs.Counts.{count-add, count-always, count-same}
use Rattle.bittle_bits.proofs.MembersBelow.{below_between}
use Rattle.bittle_bits.proofs.Sizes.{size-complement}
use Rattle.bittle.specs.PlainSet.{PlainSet, complement, members_below, size}
use Rattle.bittle.specs.Searches.{IsFirstIn, IsLastIn, NoneIn}
use Rattle.bittle.proofs.CallerSets.{size_some, size_zero}
use Rattle.bittle_ext.specs.RangeMembers.{HasAllIn}
use Rattle.bittle_ext.proofs.RankFacts.{below_stays}

-- a search of a whole set finds a member exactly if the size is not 0
pub first_tells_size : (s : PlainSet) (r : Option ℕ) → IsFirstIn s 0 s.capacity r →
    MatchOption r (size s ≡ 0) (λ _. 0 < size s)
first_tells_size s None none = size_zero s none
first_tells_size s (Some k) found = size_some s k found.1 found.2

pub last_tells_size : (s : PlainSet) (r : Option ℕ) → IsLastIn s 0 s.capacity r →
    MatchOption r (size s ≡ 0) (λ _. 0 < size s)
last_tells_size s None none = size_zero s none
last_tells_size s (Some k) found = size_some s k found.1 found.2

-- a search for an unset bit of a whole set finds one exactly if the size is below the capacity
unset_tells_size : (s : PlainSet) (r : Option ℕ) →
    MatchOption r (size (complement s) ≡ 0) (λ _. 0 < size (complement s)) →
    MatchOption r (size s ≡ s.capacity) (λ _. size s < s.capacity)
unset_tells_size s None none = omega (arith, none, size-complement s)
unset_tells_size s (Some k) some = omega (arith, some, size-complement s)

pub first_unset_tells_size : (s : PlainSet) (r : Option ℕ) →
    IsFirstIn (complement s) 0 s.capacity r →
    MatchOption r (size s ≡ s.capacity) (λ _. size s < s.capacity)
first_unset_tells_size s r found = unset_tells_size s r (first_tells_size (complement s) r found)

pub last_unset_tells_size : (s : PlainSet) (r : Option ℕ) →
    IsLastIn (complement s) 0 s.capacity r →
    MatchOption r (size s ≡ s.capacity) (λ _. size s < s.capacity)
last_unset_tells_size s r found = unset_tells_size s r (last_tells_size (complement s) r found)

-- the count of a range without members is 0
pub count_of_none : (s : PlainSet) (from to : ℕ) → NoneIn s from to →
    members_below s to - members_below s from ≡ 0
count_of_none s from to none = elim (cases_lt from to) [
  | inl l ↦ omega (arith, below_stays s from to (omega (arith, l)) none)
  | inr g ↦ omega (arith, (below_between s to from g).0)
]

-- the count of a range of members is its length
pub count_of_all : (s : PlainSet) (from to : ℕ) → HasAllIn s from to →
    members_below s to - members_below s from ≡ to - from
count_of_all s from to all = elim (cases_lt from to) [
  | inl l ↦
      let n = to - from in
      let end : from + n ≡ to = omega (arith, l) in
      let sum = rw end at (count-add from n s.has) in
      let each = count-same n (λ k. s.has (from + k)) (λ _. true)
      (λ k b. all (from + k) (omega arith) (omega (arith, b, end))) ∙ count-always n in
      omega (arith, sum, each)
  | inr g ↦ omega (arith, g, (below_between s to from g).0)
]
