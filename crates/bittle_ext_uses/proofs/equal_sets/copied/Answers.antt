use Rattle.std.proofs.Common.{◌≡◌, ℕ, ◌+◌, ◌<◌, ◌≤◌, true, false, inl, inr, ap, sym, ◌∙◌, arith}
use Rattle.std.proofs.lemmas.Bool.{cases_lt}
use Rattle.bittle.specs.BitPatterns.{bit_set}
use Rattle.bittle.specs.PlainSet.{PlainSet, contains, with_index}
use Rattle.bittle.proofs.CallerChanges.{contains_after_set}
use Rattle.bittle_ext.proofs.CallerMembers.{contains_empty, contains_other_after_set}
use Rattle.bittle_lemmas.proofs.EqualSets.{same_bits_if_each}
use Rattle.bittle_ext_uses.proofs.equal_sets.copied.Goals as goal
use Rattle.bittle_ext_uses.proofs.equal_sets.copied.Goals.{then-test_bit, else-test_bit}

-- if two sets agree on the numbers below k and on k, they agree on those below k + 1
up_to : (s t : PlainSet) (k : ℕ) → ((j : ℕ) → j < k → contains s j ≡ contains t j) →
    contains s k ≡ contains t k → (j : ℕ) → j < k + 1 → contains s j ≡ contains t j
up_to s t k below at j up = elim (cases_lt j k) [
  | inl l ↦ below j l
  | inr g ↦ let same : j ≡ k = omega (arith, up, g) in rw (same) at
]

-- a turn of the loop in which `from` has the number k, and a turn in which it lacks k
module _ (from before : ℕ) (k : ℕ) (few : k < 64)
    (same : (j : ℕ) → j < k → contains (bit_set 64 before) j ≡ contains (bit_set 64 from) j)
    (none : (j : ℕ) → k ≤ j → j < 64 → contains (bit_set 64 before) j ≡ false) where
  set_below : (after : ℕ) → bit_set 64 after ≡ with_index (bit_set 64 before) k →
      contains (bit_set 64 from) k ≡ true →
      (j : ℕ) → j < k + 1 → contains (bit_set 64 after) j ≡ contains (bit_set 64 from) j
  set_below after is has = up_to _ _ k
      (λ j up. contains_other_after_set _ _ k j _ is (λ e. omega (arith, e, up)) few
      (omega (arith, up, few)) (same j up))
      (contains_after_set _ _ k is (omega arith) ∙ sym has)

  set_past : (after : ℕ) → bit_set 64 after ≡ with_index (bit_set 64 before) k →
      (j : ℕ) → k + 1 ≤ j → j < 64 → contains (bit_set 64 after) j ≡ false
  set_past after is j past up = contains_other_after_set _ _ k j false is
      (λ e. omega (arith, e, past)) few up (none j (omega (arith, past)) up)

  unset_below : contains (bit_set 64 from) k ≡ false →
      (j : ℕ) → j < k + 1 → contains (bit_set 64 before) j ≡ contains (bit_set 64 from) j
  unset_below lacks = up_to _ _ k same (none k (omega arith) few ∙ sym lacks)

pub loop-k-init : goal.loop-k-init
loop-k-init c = record {
  below = λ j up. absurd (omega (arith, up));
  past = λ j from up. ap (λ s. contains s j) c.zeros-to.ensures.value ∙ contains_empty 64 j;
}

pub loop-k-preserved : goal.loop-k-preserved
loop-k-preserved c =
    let below = c.loop-k.invariant.below in
    let past = c.loop-k.invariant.past in
    elim c.if-test_bit.branch [
      | then-test_bit w ↦ rw (w.to-is) record {
        below = set_below _ _ _ c.loop-k-test.true below past _ w.set_bit.ensures.set
            (sym c.test_bit.ensures.value ∙ w.if-test_bit.true);
        past = set_past _ _ _ c.loop-k-test.true below past _ w.set_bit.ensures.set;
      }
      | else-test_bit w ↦ rw (w.to-is) record {
        below = unset_below _ _ _ c.loop-k-test.true below past
            (sym c.test_bit.ensures.value ∙ w.if-test_bit.false);
        past = λ j from up. past j (omega (arith, from)) up;
      }
    ]

pub returns : goal.returns
returns c = same_bits_if_each 64 _ _
    (λ k up. c.loop-k.invariant.below k (omega (arith, up, c.loop-k-test.false)))
