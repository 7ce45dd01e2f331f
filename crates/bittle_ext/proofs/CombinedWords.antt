-- The words of the result of an operation on two sets.
use Rattle.std.proofs.Common.{◌≡◌, ℕ, ◌*◌, ◌+◌, ◌/◌, ◌<◌, ◌≤◌, Bool, false, inl, inr, refl, sym, ap}
use Rattle.std.proofs.Common.{◌∙◌, arith}
use Rattle.std.proofs.Math.Path.{fun_ext}
use Rattle.std.proofs.Math.Nat.{mul-div_left, mul-le-mul_right}
use Rattle.std.proofs.lemmas.Bool.{cases_lt, le-ltb}
use Rattle.bittle.specs.BitPatterns.{bit_set}
use Rattle.bittle_bits.specs.LawProofs.{one_word}
use Rattle.bittle.specs.Orders.{place, read_in}
use Rattle.bittle.specs.PlainSet.{PlainSet}
use Rattle.bittle.specs.SetOperations.{combination_of}
use Rattle.bittle.specs.Words.{word_has, word_of}
use Rattle.bittle_bits.proofs.BitSets.{no_digits}
use Rattle.bittle_bits.proofs.PlainSets.{plain_set}
use Rattle.bittle_bits.proofs.PlaceLemmas.{place_past}
use Rattle.bittle_bits.proofs.SetOperations.{combination-below, combination-outside}
use Rattle.bittle_bits.proofs.SetOperations.{members-combination}
use Rattle.bittle_bits.proofs.Words.{word_has-at, digit_at}
use Rattle.bittle_ext.specs.Combined.{decided_set}

-- the empty word is each word past the last one of a set
pub empty_past : (w words k d : ℕ) (s : PlainSet) → words * w ≡ s.capacity →
    ((i : ℕ) → s.capacity ≤ i → s.has i ≡ false) → words ≤ k → d ≡ 0 → bit_set w d ≡ word_of w s k
unfolding word_has
empty_past w words k d s whole past few none =
    let up : words * w ≤ k * w = mul-le-mul_right w few in
    no_digits w d none ∙ ap (plain_set w) (fun_ext λ i. elim (cases_lt i w) [
      | inl l ↦ sym (word_has-at w s k i l ∙ past (k * w + i) (omega (arith, up, whole)))
      | inr g ↦ rw (le-ltb i w g) refl
    ])

-- `empty_past`, with the number of words computed as the capacity divided by the width
pub word_past : (w c v k d : ℕ) (s : PlainSet) → 0 < w → (words : ℕ) × (s.capacity ≡ words * w) →
    ((i : ℕ) → s.capacity ≤ i → s.has i ≡ false) → c ≡ s.capacity → v ≡ w → c / v ≤ k → d ≡ 0 →
    bit_set w d ≡ word_of w s k
word_past w c v k d s word whole past is wide far none =
    let e : c ≡ whole.0 * w = is ∙ whole.1 in
    let few : whole.0 ≤ k = omega (arith, mul-div_left whole.0 word, rw (e, wide) at far) in
    empty_past w whole.0 k d s (sym whole.1) past few none

-- the operation on word k of both sets gives word k of its result on the sets
pub decided_word : (f : Bool → Bool → Bool) (w : ℕ) (s t : PlainSet) (k : ℕ) →
    combination_of f (word_of w s k) (word_of w t k) ≡ word_of w (decided_set f s t) k
unfolding word_has
decided_word f w s t k =
    ap (plain_set w) (fun_ext λ i. elim (cases_lt i w) [
      | inl l ↦ combination-below f (word_of w s k) (word_of w t k) i l l
          ∙ (λ j. f (word_has-at w s k i l j) (word_has-at w t k i l j))
          ∙ sym (word_has-at w (decided_set f s t) k i l)
      | inr g ↦ combination-outside f (word_of w s k) (word_of w t k) i g ∙ rw (le-ltb i w g) refl
    ])

-- word k of a set, read in an order, is word k of the set in that order
pub word_in_order : (m : Bool) (w k : ℕ) (s : PlainSet) (d : ℕ) → 0 < w →
    bit_set w d ≡ word_of w s k → read_in m w (bit_set w d) ≡ word_of w (read_in m w s) k
unfolding word_has
word_in_order m w k s d word is =
    ap (plain_set w) (fun_ext λ i. elim (cases_lt i w) [
      | inl l ↦ digit_at m w k s d word is i l ∙ sym (word_has-at w (read_in m w s) k i l)
      | inr g ↦ let past : 1 * w ≤ place m w i = place_past m w 1 i word (omega arith) in
          ap (λ t. t.has (place m w i)) is
          ∙ rw (le-ltb (place m w i) w (omega (arith, past)), le-ltb i w g) refl
    ])

-- `decided_word`, for words of two sets that are read in an order
pub decided_in_order : (f : Bool → Bool → Bool) (m : Bool) (w k : ℕ) (s t : PlainSet)
    (d x y : ℕ) → 0 < w → bit_set w d ≡ combination_of f (bit_set w x) (bit_set w y) →
    read_in m w (bit_set w x) ≡ word_of w s k → read_in m w (bit_set w y) ≡ word_of w t k →
    read_in m w (bit_set w d) ≡ word_of w (decided_set f s t) k
decided_in_order f m w k s t d x y word is ours theirs =
    ap (read_in m w) is
    ∙ members-combination f m w (bit_set w x) (bit_set w y) word (one_word w) (one_word w)
    ∙ (λ i. combination_of f (ours i) (theirs i)) ∙ decided_word f w s t k
