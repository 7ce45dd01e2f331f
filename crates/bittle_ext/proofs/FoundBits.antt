-- What the bit is that a search found, and what the bits of a run are.
use Rattle.std.proofs.Common.{◌≡◌, ℕ, ◌+◌, ◌≤◌, true, false, Option, Some, None, IfSome, ◌∙◌}
use Rattle.std.proofs.Common.{MatchOption}
use Rattle.std.proofs.Common.{arith}
use Rattle.std.proofs.lemmas.Bool.{and_parts}
use Rattle.bittle.specs.PlainSet.{PlainSet, complement, contains, is_in_span, lacks, members_below}
use Rattle.bittle.specs.PlainSet.{size}
use Rattle.bittle.specs.Searches.{IsFirstIn, IsLastIn, NoneIn}
use Rattle.bittle.proofs.CallerSets.{contains_within}
use Rattle.bittle_ext.specs.RangeMembers.{members_within}
use Rattle.bittle_ext.specs.Runs.{IsFirstRun}
use Rattle.bittle_ext.proofs.CallerMembers.{none_where_found, unset_where_found}

-- the least, or the greatest, member that a search found is set
pub set_at_first : (s : PlainSet) (from to : ℕ) (r : Option ℕ) → IsFirstIn s from to r →
    to ≤ s.capacity → IfSome r (λ i. contains s i ≡ true)
set_at_first s from to None first within = tt
set_at_first s from to (Some i) first within =
    contains_within s i (omega (arith, first.1, within)) ∙ first.2

pub set_at_last : (s : PlainSet) (from to : ℕ) (r : Option ℕ) → IsLastIn s from to r →
    to ≤ s.capacity → IfSome r (λ i. contains s i ≡ true)
set_at_last s from to None last within = tt
set_at_last s from to (Some i) last within =
    contains_within s i (omega (arith, last.1, within)) ∙ last.2

-- what a search for an unset bit found is unset
pub unset_at_first : (s : PlainSet) (from to : ℕ) (r : Option ℕ) →
    IsFirstIn (complement s) from to r → IfSome r (λ i. contains s i ≡ false)
unset_at_first s from to None first = tt
unset_at_first s from to (Some i) first = unset_where_found s i first.2

pub unset_at_last : (s : PlainSet) (from to : ℕ) (r : Option ℕ) →
    IsLastIn (complement s) from to r → IfSome r (λ i. contains s i ≡ false)
unset_at_last s from to None last = tt
unset_at_last s from to (Some i) last = unset_where_found s i last.2

-- the unset bit of a rank is unset
pub unset_at_rank : (s : PlainSet) (rank : ℕ) (r : Option ℕ) →
    MatchOption r (size (complement s) ≤ rank) (λ i. ((complement s).has i ≡ true)
    × (members_below (complement s) i ≡ rank)) → IfSome r (λ i. contains s i ≡ false)
unset_at_rank s rank None found = tt
unset_at_rank s rank (Some i) found = unset_where_found s i found.0

-- a run of unset bits that a search found has no member
pub unset_in_first_run : (s : PlainSet) (from length : ℕ) (r : Option ℕ) →
    IsFirstRun (complement s) from length r → IfSome r (λ i. NoneIn s i (i + length))
unset_in_first_run s from length None first = tt
unset_in_first_run s from length (Some i) first =
    λ k low high. none_where_found s k (first.1.1 k low high)

pub unset_in_first_run_within : (s : PlainSet) (from to length : ℕ) (r : Option ℕ) →
    IsFirstRun (members_within (complement s) from to) from length r →
    IfSome r (λ i. NoneIn s i (i + length))
unset_in_first_run_within s from to length None first = tt
unset_in_first_run_within s from to length (Some i) first = λ k low high.
    none_where_found s k (and_parts (is_in_span from to k) (lacks s k) (first.1.1 k low high)).1
