-- Facts about the index that a search found, most often of an unset bit, in a set or a union of two.
use Rattle.std.proofs.Common.{◌≡◌, ℕ, ◌+◌, ◌<◌, ◌≤◌, Bool, true, false, not, ◌||◌, Option}
use Rattle.std.proofs.Common.{Some, None, MatchOption, inl, inr, refl, sym, ap, ◌∙◌, subst, arith}
use Rattle.std.proofs.lemmas.Bool.{and_parts, cases_lt, not-false, not-true, true≢false}
use Rattle.bittle.specs.PlainSet.{PlainSet, complement, contains, is_in_span, lacks, size}
use Rattle.bittle.specs.Searches.{IsFirstIn, NoneIn}
use Rattle.bittle.proofs.CallerSets.{complement_within, contains_within, size_at_most, size_full}
use Rattle.bittle.proofs.CallerSets.{size_some}
use Rattle.bittle_ext.specs.Combined.{either_of}
use Rattle.bittle_ext.specs.RangeMembers.{members_within}
use Rattle.bittle_ext.specs.Runs.{IsFirstRun}
pub use Rattle.bittle_ext.proofs.CallerMembers.{found_below, none_where_found, unset_where_found}

-- if a search of a range found no unset number, each number of the range is a member
pub set_if_none_unset : (s : PlainSet) (from to k : ℕ) → NoneIn (complement s) from to →
    to ≤ s.capacity → from ≤ k → k < to → contains s k ≡ true
set_if_none_unset s from to k none within low high =
    let below : k < s.capacity = omega (arith, high, within) in
    contains_within s k below
    ∙ not-false (s.has k) (sym (complement_within s k below) ∙ none k low high)

-- each number of the range before the least one that was found unset is a member
pub set_below_found : (s : PlainSet) (from to i k : ℕ) → IsFirstIn (complement s) from to (Some i) →
    to ≤ s.capacity → from ≤ k → k < i → contains s k ≡ true
set_below_found s from to i k first within low below =
    set_if_none_unset s from i k first.3 (omega (arith, first.1, within)) low below

-- each number of the range before the first one that two sets lack is in one of them
pub in_either_below_found : (s t : PlainSet) (from to i k : ℕ) →
    IsFirstIn (complement (either_of s t)) from to (Some i) → to ≤ s.capacity → to ≤ t.capacity →
    from ≤ k → k < i → (contains s k || contains t k) ≡ true
in_either_below_found s t from to i k first one other low below =
    let ours : k < s.capacity = omega (arith, below, first.1, one) in
    let theirs : k < t.capacity = omega (arith, below, first.1, other) in
    ap (λ b. b || contains t k) (contains_within s k ours)
    ∙ ap (λ b. s.has k || b) (contains_within t k theirs)
    ∙ sym (contains_within (either_of s t) k (omega (arith, ours)))
    ∙ set_below_found (either_of s t) from to i k first (omega (arith, one)) low below

-- a search of a view finds the same as a search of the set that the view equals
pub first_in_same : (s t : PlainSet) (from to : ℕ) (r : Option ℕ) → s ≡ t →
    IsFirstIn s from to r → IsFirstIn t from to r
first_in_same s t from to r same is = subst (λ (u : PlainSet). IsFirstIn u from to r) same is

pub first_unset_in_same : (s t : PlainSet) (from to : ℕ) (r : Option ℕ) → s ≡ t →
    IsFirstIn (complement s) from to r → IsFirstIn (complement t) from to r
first_unset_in_same s t from to r same is =
    subst (λ (u : PlainSet). IsFirstIn (complement u) from to r) same is

-- each number of a run that was found unset in a range is no member
pub unset_in_run : (s : PlainSet) (low high from n i k : ℕ) →
    IsFirstRun (members_within (complement s) low high) from n (Some i) → i ≤ k → k < i + n →
    contains s k ≡ false
unset_in_run s low high from n i k run begun ends =
    unset_where_found s k (and_parts (is_in_span low high k) (lacks s k) (run.1.1 k begun ends)).1

-- a set in which a search found a member is not empty
pub size_if_found : (s : PlainSet) (from to : ℕ) (r : Option ℕ) → IsFirstIn s from to r →
    to ≤ s.capacity → MatchOption r (NoneIn s from to) (λ _. 0 < size s)
size_if_found s from to None none within = none
size_if_found s from to (Some i) first within =
    size_some s i (omega (arith, first.1, within)) first.2

-- a set in which a number was found unset is not full
pub not_full_if_found : (s : PlainSet) (i : ℕ) → lacks s i ≡ true → size s < s.capacity
not_full_if_found s i found = elim (cases_lt (size s) s.capacity) [
  | inl fewer ↦ fewer
  | inr all ↦ absurd (true≢false (
      sym (size_full s (omega (arith, all, size_at_most s)) i (found_below s i found))
      ∙ none_where_found s i found))
]

-- if the disjunction of two values is false, both are false
pub neither : (a b : Bool) → not (a || b) ≡ true → (a ≡ false) × (b ≡ false)
neither true b e = absurd (true≢false (sym e))
neither false b e = (refl, not-true b e)

-- an index that was found unset in a union is unset in each of the two sets
pub unset_in_first : (s t : PlainSet) (i : ℕ) → lacks (either_of s t) i ≡ true →
    i < s.capacity → contains s i ≡ false
unset_in_first s t i found below =
    contains_within s i below
    ∙ (neither (s.has i) (t.has i) (ap not (none_where_found (either_of s t) i found))).0

pub unset_in_second : (s t : PlainSet) (i : ℕ) → lacks (either_of s t) i ≡ true →
    i < t.capacity → contains t i ≡ false
unset_in_second s t i found below =
    contains_within t i below
    ∙ (neither (s.has i) (t.has i) (ap not (none_where_found (either_of s t) i found))).1
