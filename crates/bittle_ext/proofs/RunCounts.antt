-- How many members a set has after a run of bits was set or cleared.
use Rattle.std.proofs.Common.{◌≡◌, ℕ, ◌+◌, ◌-◌, ◌<◌, ◌≤◌, ◌⊎◌, Bool, true, false, not, inl, inr}
use Rattle.std.proofs.Common.{sym, ◌∙◌, ap, arith}
use Rattle.std.proofs.lemmas.Bool.{not-true}
use Rattle.bittle.specs.PlainSet.{PlainSet, complement, count_below, size, with_span}
use Rattle.bittle.specs.Searches.{NoneIn}
use Rattle.bittle.proofs.CallerSets.{size_whole, complement_within}
use Rattle.bittle_bits.proofs.Counts.{count-add, count-same, count-never}
use Rattle.bittle_bits.proofs.Spans.{inside_span, outside_span}
use Rattle.bittle_ext.specs.Runs.{IsRun}

-- if two tests of the numbers below c differ only at n neighbouring numbers, the count of the test
-- that these numbers pass is n more than that of the other
pub count_run_more : (c from n : ℕ) (s t : ℕ → Bool) → from + n ≤ c →
    ((k : ℕ) → from ≤ k → k < from + n → s k ≡ false) →
    ((k : ℕ) → from ≤ k → k < from + n → t k ≡ true) →
    ((k : ℕ) → (k < from) ⊎ (from + n ≤ k) → t k ≡ s k) →
    count_below c t ≡ count_below c s + n
count_run_more c from n s t within none all same =
    let rest : ℕ = c - (from + n) in
    let whole : c ≡ from + n + rest = omega arith in
    let low = count-same from t s (λ k l. same k (inl l)) in
    let out = count-same n (λ k. s (from + k)) (λ _. false)
    (λ k l. none (from + k) (omega arith) (omega arith)) ∙ count-never n in
    let run = size_whole (record { capacity = n; has = λ k. t (from + k) })
    (λ k l. all (from + k) (omega arith) (omega arith)) in
    let high = count-same rest (λ k. t (from + n + k)) (λ k. s (from + n + k))
    (λ k l. same (from + n + k) (inr (omega arith))) in
    let first = ap (λ m. count_below m t) whole ∙ count-add (from + n) rest t in
    let second = ap (λ m. count_below m s) whole ∙ count-add (from + n) rest s in
    omega (arith, low, out, run, high, first, second, count-add from n t, count-add from n s)

-- the bits of a run of unset bits are unset
pub run_is_unset : (s : PlainSet) (n from : ℕ) → IsRun (complement s) n from →
    NoneIn s from (from + n)
run_is_unset s n from run k p q =
    let within : from + n ≤ s.capacity = run.0 in
    not-true (s.has k) (sym (complement_within s k (omega arith)) ∙ run.1 k p q)

-- after a run of n unset bits was set, the set has n members more
pub size_with_run : (s : PlainSet) (n from : ℕ) → IsRun (complement s) n from →
    size (with_span s from (from + n)) ≡ size s + n
size_with_run s n from run =
    count_run_more s.capacity from n s.has (with_span s from (from + n)).has run.0
    (run_is_unset s n from run)
    (λ k p q. inside_span (λ _. true) s from (from + n) k p q)
    (λ k out. outside_span (λ _. true) s from (from + n) k out)
