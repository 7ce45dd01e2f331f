-- Facts on sets that callers cite: changes and tests of an index that does not wrap, sizes, and
-- operations.
use Rattle.std.proofs.Common.{◌≡◌, ℕ, ◌<◌, ◌≤◌, Bool, true, false, cond, not, nat_lt, ◌&&◌, ◌||◌}
use Rattle.std.proofs.Common.{◌==◌, inl, inr, sym, ap, ◌∙◌, refl, arith}
use Rattle.std.proofs.Math.Nat.{mod-eq_of_lt}
use Rattle.std.proofs.lemmas.Bool.{cases_Bool, lt-ltb}
use Rattle.bittle_bits.specs.PlainSet.{PlainSet, with_index, has_with, without_index}
use Rattle.bittle_bits.specs.PlainSet.{has_without, complement, lacks, empty_set, full_set, size}
use Rattle.bittle_bits.specs.Searches.{NoneIn}
use Rattle.bittle_bits.specs.SetOperations.{combination_of, combination_has, first_alone}
pub use Rattle.bittle_bits.proofs.PlainSets.{contains_within, members-past}
use Rattle.bittle_bits.proofs.Counts as counts
use Rattle.bittle_bits.proofs.Sizes as sizes

-- after an index below the capacity is put in, a set has that index and its old members
pub with_index_within : (s : PlainSet) (i : ℕ) → i < s.capacity →
    with_index s i ≡ record { capacity = s.capacity; has = λ k. (k == i) || s.has k }
unfolding has_with
with_index_within s i h =
    let some = lt-ltb 0 s.capacity (omega arith) in
    let same = mod-eq_of_lt h in
    let each : (k : ℕ) → has_with s i k ≡ ((k == i) || s.has k) = λ k. rw (some, same) refl in
    λ j. record { capacity = s.capacity; has = λ k. each k j }

-- after an index below the capacity is taken out, a set has its old members except that index
pub without_index_within : (s : PlainSet) (i : ℕ) → i < s.capacity →
    without_index s i ≡ record { capacity = s.capacity; has = λ k. not (k == i) && s.has k }
unfolding has_without
without_index_within s i h =
    let some = lt-ltb 0 s.capacity (omega arith) in
    let same = mod-eq_of_lt h in
    let each : (k : ℕ) → has_without s i k
    ≡ (not (k == i) && s.has k) = λ k. rw (some, same) refl in
    λ j. record { capacity = s.capacity; has = λ k. each k j }

-- below the capacity, a number is in the complement exactly if it is not a member
pub complement_within : (s : PlainSet) (i : ℕ) → i < s.capacity →
    (complement s).has i ≡ not (s.has i)
unfolding lacks
complement_within s i h = let inside = lt-ltb i s.capacity h in rw inside refl

-- the difference of the full set and a set of the same capacity is the complement of that set
pub full_without : (c : ℕ) (s : PlainSet) → s.capacity ≡ c →
    combination_of first_alone (full_set c) s ≡ complement s
unfolding combination_has lacks
full_without c s same =
    let each : (i : ℕ) → combination_has first_alone (full_set c) s i ≡ lacks s i = λ i.
    rw same (decided (nat_lt i c) (s.has i)) in
    λ j. record { capacity = sym same j; has = λ i. each i j }
  where
    decided : (below member : Bool) →
        cond (below && below) (below && not member) below ≡ (below && not member)
    decided true member = refl
    decided false member = refl

-- below both capacities, the operation decides whether a number is in the result
pub combination_within : (decide : Bool → Bool → Bool) (s t : PlainSet) (i : ℕ) → i < s.capacity →
    i < t.capacity → (combination_of decide s t).has i ≡ decide (s.has i) (t.has i)
unfolding combination_has
combination_within decide s t i h k = let one = lt-ltb i s.capacity h in
    let other = lt-ltb i t.capacity k in rw (one, other) refl

-- a set has no more members than its capacity
pub size_at_most : (s : PlainSet) → size s ≤ s.capacity
size_at_most = sizes.size-le

-- a set with a member has a size above 0
pub size_some : (s : PlainSet) (k : ℕ) → k < s.capacity → s.has k ≡ true → 0 < size s
size_some s k = counts.count-some s.capacity k s.has

-- a set of size 0 has no members
pub size_none : (s : PlainSet) → size s ≡ 0 → NoneIn s 0 s.capacity
size_none s e k p q =
    elim (cases_Bool (s.has k)) [
      | inl here ↦ let some = size_some s k q here in absurd (omega arith)
      | inr none ↦ none
    ]

-- the empty set has size 0
pub size_empty : (c : ℕ) → size (empty_set c) ≡ 0
size_empty = counts.count-never

-- a set with no members has size 0
pub size_zero : (s : PlainSet) → NoneIn s 0 s.capacity → size s ≡ 0
size_zero s none = counts.count-same s.capacity s.has (λ _. false) (λ k h. none k (omega arith) h)
    ∙ size_empty s.capacity

-- a set whose size is its capacity has each number below it
pub size_full : (s : PlainSet) → size s ≡ s.capacity → (k : ℕ) → k < s.capacity → s.has k ≡ true
size_full s e k h =
    let none = size_none (complement s) (omega (arith, sizes.size-complement s)) k
    (omega arith) h in
    elim (cases_Bool (s.has k)) [
      | inl here ↦ here
      | inr gone ↦ let no : true ≡ false = sym (complement_within s k h ∙ ap not gone) ∙ none in
          absurd (cc)
    ]

-- a set that has each number below its capacity has the capacity as its size
pub size_whole : (s : PlainSet) → ((k : ℕ) → k < s.capacity → s.has k ≡ true) → size s ≡ s.capacity
size_whole s all =
    let none = size_zero (complement s) (λ k p q. complement_within s k q ∙ ap not (all k q)) in
    omega (arith, none, sizes.size-complement s)
