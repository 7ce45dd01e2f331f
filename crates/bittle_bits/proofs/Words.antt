-- Word k of a set: its members are those of the set from k * w on.
use Rattle.std.proofs.Common.{◌≡◌, ℕ, suc, ◌+◌, ◌*◌, ◌<◌, ◌≤◌, Bool, ◌&&◌, inl, inr, refl, sym, ap}
use Rattle.std.proofs.Common.{◌∙◌, arith}
use Rattle.std.proofs.Math.Path.{fun_ext}
use Rattle.std.proofs.Math.Nat.{zero-mul, lt_of_mul-lt-mul_right, mul-le-mul_right}
use Rattle.std.proofs.lemmas.Bool.{cases_lt, lt-ltb, le-ltb}
use Rattle.bittle_bits.specs.BitPatterns.{bit_has, bit_set}
use Rattle.bittle_bits.specs.Orders.{place, read_in}
use Rattle.bittle_bits.specs.PlainSet.{PlainSet}
use Rattle.bittle_bits.specs.Words.{word_has, word_of, ReplacesWord}
use Rattle.bittle_bits.proofs.PlaceLemmas.{place_part, place_in_word}
use Rattle.bittle_bits.proofs.PlainSets.{plain_set}

-- the members of word k are those of the set, counted from its first place
pub word_has-at : (w : ℕ) (s : PlainSet) (k i : ℕ) → i < w → word_has w s k i ≡ s.has (k * w + i)
unfolding word_has
word_has-at w s k i h = ap (λ b. b && s.has (k * w + i)) (lt-ltb i w h)

-- the only word of a word is the word itself
pub word_of-pattern : (w d k : ℕ) → k * w < w → bit_set w d ≡ word_of w (bit_set w d) k
unfolding word_has bit_has
word_of-pattern w d k h =
    let one : k * w < 1 * w = omega arith in
    let low : k < 1 = lt_of_mul-lt-mul_right w one in
    let zero : k ≡ 0 = omega arith in
    let none : k * w ≡ 0 = ap (λ t. t * w) zero ∙ zero-mul w in
    ap (plain_set w) (fun_ext λ i. elim (cases_lt i w) [
      | inl l ↦ let e : i ≡ k * w + i = omega arith in
          ap (bit_has w d) e ∙ sym (ap (λ b. b && bit_has w d (k * w + i)) (lt-ltb i w l))
      | inr g ↦ rw (le-ltb i w g) refl
    ])

-- replacing the only word of a word yields the other word
pub word_replaced : (w d e k : ℕ) → k * w < w →
    ReplacesWord w (bit_set w d) k (bit_set w e) (bit_set w e)
word_replaced w d e k h = record {
  capacity = refl;
  replaced = sym (word_of-pattern w e k h);
  others = λ j n l. absurd (
      let one : k * w < 1 * w = omega arith in
      let also : j * w < 1 * w = omega arith in
      let low : k < 1 = lt_of_mul-lt-mul_right w one in
      let low_too : j < 1 = lt_of_mul-lt-mul_right w also in
      n (omega arith));
}

-- the members of word k in an order are those of the set from k * w on
module _ (m : Bool) (w k : ℕ) (s : PlainSet) (d : ℕ) (word : 0 < w) where
  member_at : (i : ℕ) → i < w → (read_in m w s).has (k * w + i) ≡ s.has (k * w + place m w i)
  member_at i h =
      let one : k * (1 * w) ≡ k * w = omega arith in
      let b : i < 1 * w = omega arith in
      let e : place m w (k * w + i) ≡ k * w + place m w i = rw one at (place_part m w 1 k i word b)
      in
      ap s.has e

  -- in an order, the bits of word k are those of the set, counted from k * w
  pub digit_at : bit_set w d ≡ word_of w s k → (i : ℕ) → i < w →
      (read_in m w (bit_set w d)).has i ≡ (read_in m w s).has (k * w + i)
  digit_at is i h = ap (λ t. t.has (place m w i)) is ∙ word_has-at w s k (place m w i)
      (place_in_word m w i h) ∙ sym (member_at i h)

-- sets with the same word k have the same members in that word, in each order
pub same_word : (m : Bool) (w k : ℕ) (s t : PlainSet) → 0 < w → word_of w s k ≡ word_of w t k →
    (i : ℕ) → i < w → (read_in m w s).has (k * w + i) ≡ (read_in m w t).has (k * w + i)
same_word m w k s t word is i h =
    let low = place_in_word m w i h in
    member_at m w k s 0 word i h ∙ sym (word_has-at w s k (place m w i) low)
    ∙ ap (λ u. u.has (place m w i)) is
    ∙ word_has-at w t k (place m w i) low ∙ sym (member_at m w k t 0 word i h)

-- a word that begins below a capacity of whole words ends below it
pub word_ends : (w k c : ℕ) → (words : ℕ) × (c ≡ words * w) → k * w < c → k * w + w ≤ c
word_ends w k c whole within =
    let h : k * w < whole.0 * w = omega (arith, whole.1) in
    let low : k < whole.0 = lt_of_mul-lt-mul_right w h in
    let up : suc k * w ≤ whole.0 * w = mul-le-mul_right w low in
    omega (arith, up, whole.1)
