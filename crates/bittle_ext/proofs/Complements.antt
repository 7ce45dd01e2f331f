-- The complement of a set.
use Rattle.std.proofs.Common.{◌≡◌, ℕ, ◌+◌, ◌≤◌, ◌==◌, false, not, inl, inr, refl, sym, ap, ◌∙◌}
use Rattle.std.proofs.Common.{arith, nat_lt}
use Rattle.std.proofs.Math.Bool.{and-false}
use Rattle.std.proofs.Math.Path.{fun_ext}
use Rattle.std.proofs.lemmas.Bool.{cases_Bool, cases_lt, lt-ltb, le-ltb, eq-eqb, eqb-true}
use Rattle.std.proofs.lemmas.Bool.{true≢false}
use Rattle.bittle.specs.PlainSet.{PlainSet, complement, lacks, size, with_span_toggled}
use Rattle.bittle.specs.Relations.{AreDisjoint}
use Rattle.bittle_bits.proofs.PlainSets.{plain_set}
use Rattle.bittle_bits.proofs.Sizes.{size-complement}
use Rattle.bittle_bits.proofs.Spans.{inside_span, outside_span}

-- to toggle each index below the capacity makes a set its complement
pub all_toggled : (s : PlainSet) (c : ℕ) → c ≡ s.capacity →
    ((i : ℕ) → s.capacity ≤ i → s.has i ≡ false) → with_span_toggled s 0 c ≡ complement s
unfolding lacks
all_toggled s c is past =
    ap (plain_set s.capacity) (fun_ext λ k. elim (cases_lt k s.capacity) [
      | inl l ↦ inside_span not s 0 c k (omega arith) (omega (arith, is))
          ∙ rw (lt-ltb k s.capacity l) refl
      | inr g ↦ outside_span not s 0 c k (inr (omega (arith, is)))
          ∙ rw (le-ltb k s.capacity g) (past k g)
    ])

-- a set has no member of its complement
pub complement_apart : (s : PlainSet) → AreDisjoint s (complement s)
unfolding lacks
complement_apart s k has = rw has (and-false (nat_lt k s.capacity))

-- two tests of numbers are alike if each implies the other
tests_alike : (a b c d : ℕ) → (a ≡ b → c ≡ d) → (c ≡ d → a ≡ b) → (a == b) ≡ (c == d)
tests_alike a b c d to from = elim (cases_Bool (a == b)) [
  | inl is ↦ is ∙ sym (eq-eqb c d (to (eqb-true a b is)))
  | inr differs ↦ elim (cases_Bool (c == d)) [
    | inl same ↦ absurd (true≢false (sym (eq-eqb a b (from (eqb-true c d same))) ∙ differs))
    | inr apart ↦ differs ∙ sym apart
  ]
]

-- a set is full exactly if its complement is empty
pub full_or_missing : (s : PlainSet) → (size s == s.capacity) ≡ (size (complement s) == 0)
full_or_missing s =
    let all = size-complement s in
    tests_alike _ _ _ _ (λ e. omega (arith, e, all)) (λ e. omega (arith, e, all))

-- a set is empty exactly if its complement is full
pub empty_or_full : (s : PlainSet) → (size s == 0) ≡ (size (complement s) == s.capacity)
empty_or_full s =
    let all = size-complement s in
    tests_alike _ _ _ _ (λ e. omega (arith, e, all)) (λ e. omega (arith, e, all))
