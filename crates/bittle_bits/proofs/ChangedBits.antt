-- The test of an index at which a bit was set or cleared.
use Rattle.std.proofs.Common.{◌≡◌, ℕ, ◌%◌, ◌<◌, Bool, true, false, not, ◌&&◌, ◌==◌, nat_lt, refl}
use Rattle.std.proofs.Common.{ap, ◌∙◌}
use Rattle.std.proofs.lemmas.Bool.{eq-eqb, lt-ltb}
use Rattle.bittle_bits.specs.PlainSet.{PlainSet, contains, with_index, has_with, without_index}
use Rattle.bittle_bits.specs.PlainSet.{has_without}

-- an index is in the set that it was put into
pub contains_with : (s : PlainSet) (i : ℕ) → 0 < s.capacity → contains (with_index s i) i ≡ true
unfolding contains has_with
contains_with s i some =
    let is : nat_lt 0 s.capacity ≡ true = lt-ltb 0 s.capacity some in
    let same : ((i % s.capacity) == (i % s.capacity)) ≡ true = eq-eqb _ _ refl in
    rw (is, same) refl

-- an index is not in the set that it was taken out of
pub contains_without : (s : PlainSet) (i : ℕ) → contains (without_index s i) i ≡ false
unfolding contains has_without
contains_without s i = by (nat_lt 0 s.capacity)
  where
    same : ((i % s.capacity) == (i % s.capacity)) ≡ true
    same = eq-eqb _ _ refl

    by : (b : Bool) → (b && (not (b && ((i % s.capacity) == (i % s.capacity)))
        && s.has (i % s.capacity))) ≡ false
    by true = rw same refl
    by false = refl

-- the index that was set is a member
pub contains_after_set : (s t : PlainSet) (i : ℕ) → t ≡ with_index s i → 0 < s.capacity →
    contains t i ≡ true
contains_after_set s t i is some = ap (λ u. contains u i) is ∙ contains_with s i some

-- the index that was cleared is no member
pub contains_after_clear : (s t : PlainSet) (i : ℕ) → t ≡ without_index s i → contains t i ≡ false
contains_after_clear s t i is = ap (λ u. contains u i) is ∙ contains_without s i
