-- The set after each of the calls that a list of indexes expands to.
use Rattle.std.proofs.Common.{◌≡◌, ℕ, refl}
use Rattle.bittle.specs.PlainSet.{PlainSet, with_index}

-- if the same index is added to two equal sets, the results are equal
pub then_index : (s t next : PlainSet) (i j : ℕ) → next ≡ with_index s i → s ≡ t → i ≡ j →
    next ≡ with_index t j
then_index s t next i j p q r = rw (p, q, r) refl
