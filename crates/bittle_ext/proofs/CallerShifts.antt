-- The members of a set after a shift or a copy of a range, for proofs of callers.
use Rattle.std.proofs.Common.{◌≡◌, ℕ, ◌+◌, ◌-◌, ◌<◌, ◌≤◌, ◌⊎◌, ap, ◌∙◌, sym, arith}
use Rattle.bittle.specs.PlainSet.{PlainSet, contains}
use Rattle.bittle.proofs.CallerSets.{contains_within}
use Rattle.bittle_ext.specs.Numbers.{with_copied}
use Rattle.bittle_ext.specs.Rotations.{shifted_up}
use Rattle.bittle_ext.proofs.CopiedRanges.{copied-inside, copied-outside}
use Rattle.bittle_ext.proofs.RotatedSets.{up-inside}

-- after a shift up by `by`, an index is a member exactly if the index `by` below it was one
pub contains_after_shift_up : (s t : PlainSet) (by i : ℕ) → t ≡ shifted_up s by → by ≤ i →
    i < s.capacity → contains t i ≡ contains s (i - by)
contains_after_shift_up s t by i is low below =
    ap (λ u. contains u i) is ∙ contains_within (shifted_up s by) i below
    ∙ up-inside s by i low below ∙ sym (contains_within s (i - by) (omega (arith, below)))

-- after a copy of n numbers to `at`, a number outside at..at + n is a member exactly if it was one
-- before
pub has_outside_copied : (s t u : PlainSet) (at n from k : ℕ) → t ≡ with_copied s at n u from →
    (k < at) ⊎ (at + n ≤ k) → t.has k ≡ s.has k
has_outside_copied s t u at n from k is outside =
    ap (λ v. v.has k) is ∙ copied-outside s u at n from k outside

-- after a copy, a number of at..at + n is a member exactly if the number that it is copied from is
-- one
pub has_copied_from : (s t u : PlainSet) (at n from k : ℕ) → t ≡ with_copied s at n u from →
    at ≤ k → k < at + n → t.has k ≡ u.has (k - at + from)
has_copied_from s t u at n from k is low up =
    ap (λ v. v.has k) is ∙ copied-inside s u at n from k low up
