-- The members of a set after calls on it, for proofs of callers.
use Rattle.std.proofs.Common.{◌≡◌, ◌≢◌, ◌==◌, ◌&&◌, ◌||◌, ℕ, ◌+◌, ◌-◌, ◌%◌, ◌<◌, ◌≤◌, Bool, true}
use Rattle.std.proofs.Common.{false, not, cond, nat_lt, inl, inr, refl, sym, ap, ◌∙◌, arith}
use Rattle.std.proofs.Math.Bool.{and-false, or-true}
use Rattle.std.proofs.lemmas.Bool.{and_parts, cases_Bool, cases_lt, eq-eqb, ne_eqb, ltb-true}
use Rattle.std.proofs.lemmas.Bool.{not-false, not-true}
use Rattle.bittle.proofs.CallerChanges.{contains_after_clear, contains_after_set}
use Rattle.bittle.proofs.CallerChanges.{contains_without_other, contains_with_other, size_inserted}
use Rattle.bittle.proofs.CallerChanges.{size_with, size_without}
use Rattle.bittle.proofs.CallerSets.{combination_within, complement_within, contains_within}
use Rattle.bittle.proofs.CallerSets.{size_whole, with_index_within, without_index_within}
use Rattle.bittle_bits.proofs.Sizes.{size-complement}
use Rattle.bittle.specs.PlainSet.{PlainSet, complement, contains, empty_set, lacks, size}
use Rattle.bittle.specs.PlainSet.{with_index, without_index}
use Rattle.bittle.specs.Searches.{NoneIn}
use Rattle.bittle.specs.SetOperations.{combination_of, combination_has, union_of}
use Rattle.bittle_ext.specs.Changes.{with_index_assigned, with_index_toggled}

-- the empty set has no member
pub contains_empty : (c i : ℕ) → contains (empty_set c) i ≡ false
unfolding contains
contains_empty c i = and-false (nat_lt 0 c)

-- a number that was found unset is below the capacity, and is no member
pub found_below : (s : PlainSet) (i : ℕ) → lacks s i ≡ true → i < s.capacity
unfolding lacks
found_below s i found =
    ltb-true i s.capacity (and_parts (nat_lt i s.capacity) (not (s.has i)) found).0

pub none_where_found : (s : PlainSet) (i : ℕ) → lacks s i ≡ true → s.has i ≡ false
unfolding lacks
none_where_found s i found =
    not-true (s.has i) (and_parts (nat_lt i s.capacity) (not (s.has i)) found).1

-- an index that a search for an unset bit returns is unset
pub unset_where_found : (s : PlainSet) (i : ℕ) → lacks s i ≡ true → contains s i ≡ false
unset_where_found s i found =
    contains_within s i (found_below s i found) ∙ none_where_found s i found

-- an index below the result of `bits_capacity` is below the capacity, even if the shape does not
-- fit
pub index_below : (i r c : ℕ) → (c < 4294967295 → r ≡ c) → r < 4294967296 → i < r → i < c
index_below i r c is bits below = elim (cases_lt c 4294967295) [
  | inl l ↦ omega (arith, is l, below)
  | inr g ↦ omega (arith, g, below, bits)
]

-- the set bits and the unset bits are together as many as the capacity
pub size_unset : (s : PlainSet) → size (complement s) ≡ s.capacity - size s
size_unset s = omega (arith, size-complement s)

-- if a search finds no unset bit, the size of the set is its capacity
pub full_if_none_unset : (s : PlainSet) → NoneIn (complement s) 0 s.capacity → size s ≡ s.capacity
full_if_none_unset s none = size_whole s (λ k below.
    not-false (s.has k) (sym (complement_within s k below) ∙ none k (omega arith) below))

-- after index i was set (or cleared), another index is a member exactly if it was one before
pub contains_other_after_set : (s t : PlainSet) (i j : ℕ) (b : Bool) → t ≡ with_index s i →
    j ≢ i → i < s.capacity → j < s.capacity → contains s j ≡ b → contains t j ≡ b
contains_other_after_set s t i j b is apart low up was =
    ap (λ u. contains u j) is ∙ contains_with_other s i j low up apart ∙ was

pub contains_other_after_clear : (s t : PlainSet) (i j : ℕ) (b : Bool) → t ≡ without_index s i →
    j ≢ i → i < s.capacity → j < s.capacity → contains s j ≡ b → contains t j ≡ b
contains_other_after_clear s t i j b is apart low up was =
    ap (λ u. contains u j) is ∙ contains_without_other s i j low up apart ∙ was

-- an index that was unset is set after it was flipped
pub set_after_toggle : (s t : PlainSet) (i : ℕ) → t ≡ with_index_toggled s i → 0 < s.capacity →
    contains s i ≡ false → contains t i ≡ true
set_after_toggle s t i is some unset =
    contains_after_set s t i (is ∙ ap (λ b. with_index_assigned s i (not b)) unset) some

-- an index that was set is unset after it was flipped
pub unset_after_toggle : (s t : PlainSet) (i : ℕ) → t ≡ with_index_toggled s i →
    contains s i ≡ true → contains t i ≡ false
unset_after_toggle s t i is set =
    contains_after_clear s t i (is ∙ ap (λ b. with_index_assigned s i (not b)) set)

-- an index that was flipped is a member exactly if it was none before
pub contains_after_toggle : (s t : PlainSet) (i : ℕ) → t ≡ with_index_toggled s i →
    0 < s.capacity → contains t i ≡ not (contains s i)
contains_after_toggle s t i is some = elim (cases_Bool (contains s i)) [
  | inl set ↦ unset_after_toggle s t i is set ∙ sym (ap not set)
  | inr unset ↦ set_after_toggle s t i is some unset ∙ sym (ap not unset)
]

-- after an index was set, a set has at most one member more
pub size_after_set : (s t : PlainSet) (i : ℕ) → t ≡ with_index s i → 0 < s.capacity →
    size t ≤ size s + 1
size_after_set s t i is some =
    let grown : size t ≡ size s + cond (not (contains s i)) 1 0 =
    ap size is ∙ size_inserted s i some in
    elim (cases_Bool (contains s i)) [
      | inl set ↦ omega (arith, grown ∙ ap (λ b. size s + cond (not b) 1 0) set)
      | inr unset ↦ omega (arith, grown ∙ ap (λ b. size s + cond (not b) 1 0) unset)
    ]

-- after an index that was unset was set, a set has just one member more
pub size_after_set_new : (s t : PlainSet) (i : ℕ) → t ≡ with_index s i → i < s.capacity →
    contains s i ≡ false → size t ≡ size s + 1
size_after_set_new s t i is below unset =
    ap size is ∙ size_with s i below (sym (contains_within s i below) ∙ unset)

-- after a member was cleared, a set has one member fewer
pub size_after_clear_member : (s t : PlainSet) (i : ℕ) → t ≡ without_index s i →
    i < s.capacity → contains s i ≡ true → size s ≡ size t + 1
size_after_clear_member s t i is below set =
    size_without s i below (sym (contains_within s i below) ∙ set)
    ∙ sym (ap (λ u. size u + 1) is)

-- the members of a set with an index below the capacity are that index and the set's own members
pub has_with_index : (s : PlainSet) (i k : ℕ) → i < s.capacity →
    (with_index s i).has k ≡ ((k == i) || s.has k)
has_with_index s i k below = ap (λ t. t.has k) (with_index_within s i below)

-- after an index below the capacity was set, it is a member
pub has_after_set : (s t : PlainSet) (i : ℕ) → t ≡ with_index s i → i < s.capacity →
    t.has i ≡ true
has_after_set s t i is below =
    ap (λ u. u.has i) is ∙ has_with_index s i i below ∙ ap (λ b. b || s.has i) (eq-eqb i i refl)

-- after an index below the capacity was set, each member is still one
pub still_has_after_set : (s t : PlainSet) (i j : ℕ) → t ≡ with_index s i → i < s.capacity →
    s.has j ≡ true → t.has j ≡ true
still_has_after_set s t i j is below has =
    ap (λ u. u.has j) is ∙ has_with_index s i j below ∙ ap (λ b. (j == i) || b) has
    ∙ or-true (j == i)

-- after an index was set, another number is a member exactly if it was one before
pub has_other_after_set : (s t : PlainSet) (i j : ℕ) → t ≡ with_index s i → i < s.capacity →
    j ≢ i → t.has j ≡ s.has j
has_other_after_set s t i j is below apart =
    ap (λ u. u.has j) is ∙ has_with_index s i j below
    ∙ ap (λ b. b || s.has j) (ne_eqb j i apart)

-- an index below the capacity is no member after it was cleared
pub has_after_clear : (s t : PlainSet) (i : ℕ) → t ≡ without_index s i → i < s.capacity →
    t.has i ≡ false
has_after_clear s t i is below =
    ap (λ u. u.has i) is ∙ ap (λ u. u.has i) (without_index_within s i below)
    ∙ ap (λ b. not b && s.has i) (eq-eqb i i refl)

-- after an index was cleared, another number is a member exactly if it was one before
pub has_other_after_clear : (s t : PlainSet) (i j : ℕ) → t ≡ without_index s i →
    i < s.capacity → j ≢ i → t.has j ≡ s.has j
has_other_after_clear s t i j is below apart =
    ap (λ u. u.has j) is ∙ ap (λ u. u.has j) (without_index_within s i below)
    ∙ ap (λ b. not b && s.has j) (ne_eqb j i apart)

-- ---- one index after an operation

-- after an operation, an index below both capacities is a member exactly if `decide` of its two
-- tests is true
pub contains_after_operation : (decide : Bool → Bool → Bool) (u s t : PlainSet) (i : ℕ) →
    u ≡ combination_of decide s t → i < s.capacity → i < t.capacity →
    contains u i ≡ decide (contains s i) (contains t i)
contains_after_operation decide u s t i is below within =
    let result = combination_of decide s t in
    ap (λ v. contains v i) is ∙ contains_within result i below
    ∙ combination_within decide s t i below within
    ∙ rw (contains_within s i below, contains_within t i within) refl

-- after a union, each member is still one
pub still_set_after_union : (s t u : PlainSet) (i : ℕ) → u ≡ union_of s t → contains s i ≡ true →
    contains u i ≡ true
unfolding contains combination_has
still_set_after_union s t u i is has =
    let k = i % s.capacity in
    let parts = and_parts (nat_lt 0 s.capacity) (s.has k) has in
    ap (λ v. contains v i) is
    ∙ rw (parts.0, parts.1) (either (nat_lt k s.capacity && nat_lt k t.capacity) (t.has k))
  where
    either : (below other : Bool) → cond below (true || other) true ≡ true
    either true other = refl
    either false other = refl
