-- Plain sets, and the members in an order.
use Rattle.std.proofs.Common.{◌≡◌, ℕ, ◌*◌, ◌%◌, ◌<◌, ◌≤◌, Bool, false, not, ◌&&◌, ◌||◌, ◌==◌}
use Rattle.std.proofs.Common.{nat_lt, refl, sym, ap, ◌∙◌, arith}
use Rattle.std.proofs.Math.Nat.{mod-eq_of_lt}
use Rattle.std.proofs.Math.Path.{fun_ext}
use Rattle.std.proofs.lemmas.Bool.{lt-ltb}
use Rattle.bittle_bits.specs.Orders.{place, read_in}
use Rattle.bittle_bits.specs.PlainSet.{PlainSet, contains, has_with, with_index, has_without}
use Rattle.bittle_bits.specs.PlainSet.{without_index, full_set, lacks, complement}
use Rattle.bittle_bits.proofs.PlaceLemmas.{place_past, place_inside}

-- the set of a capacity with this test
abbrev pub plain_set : ℕ → (ℕ → Bool) → PlainSet
plain_set c p = record { capacity = c; has = p }

-- the calls on a set of some capacity
module _ (s : PlainSet) (c i : ℕ) (of : s.capacity ≡ c) (some : 0 < c) where
  -- an index is tested modulo the capacity
  pub contains_in : contains s i ≡ s.has (i % c)
  unfolding contains
  contains_in = rw (of, lt-ltb 0 c some) refl

  -- with an index, a number is a member if it was one or is the index modulo the capacity
  pub has_with-in : has_with s i ≡ (λ k. (k == i % c) || s.has k)
  unfolding has_with
  has_with-in = fun_ext λ k. rw (of, lt-ltb 0 c some) refl

  -- without an index, a number is a member if it was one and is not the index modulo the capacity
  pub has_without-in : has_without s i ≡ (λ k. not (k == i % c) && s.has k)
  unfolding has_without
  has_without-in = fun_ext λ k. rw (of, lt-ltb 0 c some) refl

  -- the set with an index has its members, and the index modulo the capacity
  pub with_in : with_index s i ≡ plain_set c (λ k. (k == i % c) || s.has k)
  with_in = λ j. plain_set (of j) (has_with-in j)

  -- the set without an index has its members except the index modulo the capacity
  pub without_in : without_index s i ≡ plain_set c (λ k. not (k == i % c) && s.has k)
  without_in = λ j. plain_set (of j) (has_without-in j)

-- below the capacity no index wraps
pub contains_within : (s : PlainSet) (i : ℕ) → i < s.capacity → contains s i ≡ s.has i
unfolding contains
contains_within s i h =
    let some = lt-ltb 0 s.capacity (omega arith) in
    let same = mod-eq_of_lt h in
    rw (some, same) refl

-- no index is below a capacity of zero
module _ (s : PlainSet) (i : ℕ) (none : s.capacity ≡ 0) where
  -- at capacity 0 no index is a member
  pub contains-none : contains s i ≡ false
  unfolding contains
  contains-none = rw none refl

  -- at capacity 0 the set with an index is the set itself
  pub with-none : with_index s i ≡ s
  unfolding has_with
  with-none = ap (plain_set s.capacity) (fun_ext λ k. rw none refl)

  -- at capacity 0 the set without an index is the set itself
  pub without-none : without_index s i ≡ s
  unfolding has_without
  without-none = ap (plain_set s.capacity) (fun_ext λ k. rw none refl)

-- a capacity of whole words
module _ (m : Bool) (w : ℕ) (s : PlainSet) (word : 0 < w)
    (whole : (words : ℕ) × (s.capacity ≡ words * w)) where
  -- no number from the capacity on is a member in any order
  pub members-past : ((i : ℕ) → s.capacity ≤ i → s.has i ≡ false) → (i : ℕ) → s.capacity ≤ i →
      (read_in m w s).has i ≡ false
  members-past past i h =
      let b : whole.0 * w ≤ i = omega (arith, whole.1) in
      past (place m w i) (omega (arith, place_past m w whole.0 i word b, whole.1))

  -- the complement of a set that is read in an order is the complement, read in that order
  pub complement-members : complement (read_in m w s) ≡ read_in m w (complement s)
  unfolding lacks
  complement-members =
      ap (plain_set s.capacity) (fun_ext λ k.
      ap (λ b. b && not (s.has (place m w k)))
      (ap (nat_lt k) (whole.1) ∙ sym (place_inside m w whole.0 k word)
      ∙ ap (nat_lt (place m w k)) (sym (whole.1))))

-- the full set of a capacity of whole words is full in each order
pub full_set_in_each_order : (w c : ℕ) (s : PlainSet) → 0 < w → (words : ℕ) × (c ≡ words * w) →
    s ≡ full_set c → (m : Bool) → read_in m w s ≡ full_set c
full_set_in_each_order w c s word whole is m =
    ap (read_in m w) is ∙ rw (whole.1) (ap (plain_set (whole.0 * w))
    (fun_ext λ k. place_inside m w whole.0 k word))
