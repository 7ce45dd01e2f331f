-- How many members of a set lie below a number.
use Rattle.std.proofs.Common.{◌≡◌, ℕ, ◌+◌, ◌-◌, ◌*◌, ◌<◌, ◌≤◌, Bool, false, ◌&&◌, refl, sym, ap}
use Rattle.std.proofs.Common.{◌∙◌, arith, inl, inr, bit_and}
use Rattle.std.proofs.Math.Bool.{and-true}
use Rattle.std.proofs.lemmas.Bool.{and_right}
use Rattle.bittle_bits.specs.BitPatterns.{bit_has, bit_set}
use Rattle.bittle_bits.specs.LawProofs.{one_word}
use Rattle.bittle_bits.specs.Orders.{place, read_in}
use Rattle.bittle_bits.specs.PlainSet.{PlainSet, count_below, members_below, is_in_span, span_set}
use Rattle.bittle_bits.specs.PlainSet.{size}
use Rattle.bittle_bits.specs.Words.{word_of}
use Rattle.bittle_bits.proofs.BitSets.{bit_has-and}
use Rattle.bittle_bits.proofs.Counts.{count-same, count-le, count-add, count-never}
use Rattle.bittle_bits.proofs.Sizes.{size-members}
use Rattle.bittle_bits.proofs.Spans.{is_in_span-outside, is_in_span-inside}
use Rattle.bittle_bits.proofs.Words.{digit_at}

-- from `from` to `to` the count does not fall, and it grows by at most `to - from`
pub below_between : (s : PlainSet) (from to : ℕ) → from ≤ to →
    (members_below s from ≤ members_below s to)
    × (members_below s to ≤ members_below s from + (to - from))
below_between s from to h =
    let split : from + (to - from) ≡ to = omega arith in
    let sum = rw split at (count-add from (to - from) s.has) in
    let few = count-le (to - from) (λ k. s.has (from + k)) in
    (omega (arith, sum), omega (arith, sum, few))

-- at most n members lie below n
pub below_at_most : (s : PlainSet) (n : ℕ) → members_below s n ≤ n
below_at_most s n = count-le n s.has

-- the count below a span's end is the count below its start plus the count in the span
count_in_span : (w : ℕ) (p : ℕ → Bool) (from to : ℕ) → from ≤ to → to ≤ w →
    count_below from p + count_below w (λ i. p i && is_in_span from to i) ≡ count_below to p
count_in_span w p from to h l =
    let q : ℕ → Bool = λ i. p i && is_in_span from to i in
    let d = to - from in
    let e = w - to in
    let begin : from + d ≡ to = omega arith in
    let all : to + e ≡ w = omega arith in
    let whole = rw all at (count-add to e q) in
    let inner = rw begin at (count-add from d q) in
    let plain = rw begin at (count-add from d p) in
    let before : count_below from q ≡ 0 = count-same from q (λ _. false)
    (λ k b. ap (λ t. p k && t) (is_in_span-outside from to k (inl b)) ∙ and_right (p k) false refl)
    ∙ count-never from in
    let after : count_below e (λ k. q (to + k)) ≡ 0 = count-same e (λ k. q (to + k)) (λ _. false)
    (λ k b. ap (λ t. p (to + k) && t) (is_in_span-outside from to (to + k) (inr (omega arith)))
    ∙ and_right (p (to + k)) false refl) ∙ count-never e in
    let inside : count_below d (λ k. q (from + k)) ≡ count_below d (λ k. p (from + k)) =
    count-same d (λ k. q (from + k)) (λ k. p (from + k))
    (λ k b. ap (λ t. p (from + k) && t)
    (is_in_span-inside from to (from + k) (omega arith) (omega arith)) ∙ and-true (p (from + k))) in
    omega (arith, whole, inner, plain, before, after, inside)

module _ (m : Bool) (w : ℕ) (s : PlainSet) (word : 0 < w) where
  abbrev t : PlainSet
  t = read_in m w s

  -- over a span of word k, the count grows by the number of set bits that the word has in the span
  pub below_in_word : (k d e r n from to : ℕ) → bit_set w d ≡ word_of w s k →
      read_in m w (bit_set w e) ≡ span_set w from to → r ≡ bit_and d e →
      n ≡ size (bit_set w r) → from ≤ to → to ≤ w →
      members_below t (k * w + from) + n ≡ members_below t (k * w + to)
  below_in_word k d e r n from to is span both count h l =
      let at : ℕ → Bool = λ i. t.has (k * w + i) in
      let each : (i : ℕ) → i < w → (read_in m w (bit_set w r)).has i
      ≡ (at i && is_in_span from to i) = λ i b.
      ap (λ x. bit_has w x (place m w i)) both ∙ ap (λ p. p (place m w i)) (bit_has-and w d e)
      ∙ ap (λ b. b && bit_has w e (place m w i)) (digit_at m w k s d word is i b)
      ∙ ap (λ (u : PlainSet). at i && u.has i) span in
      let counted : n ≡ count_below w (λ i. at i && is_in_span from to i) =
      count ∙ sym (size-members m w (bit_set w r) word (one_word w))
      ∙ count-same w _ _ each in
      omega (
        arith,
        counted,
        count_in_span w at from to h l,
        count-add (k * w) from t.has,
        count-add (k * w) to t.has,
      )

  -- over word k, the count grows by the number of set bits of the word
  pub below_next_word : (k d n : ℕ) → bit_set w d ≡ word_of w s k → n ≡ size (bit_set w d) →
      members_below t (k * w) + n ≡ members_below t ((k + 1) * w)
  below_next_word k d n is count =
      let next : (k + 1) * w ≡ k * w + w = omega arith in
      let counted : n ≡ count_below w (λ i. t.has (k * w + i)) =
      count ∙ sym (size-members m w (bit_set w d) word (one_word w))
      ∙ count-same w _ _ (λ i b. digit_at m w k s d word is i b) in
      rw next (omega (arith, counted, count-add (k * w) w t.has))
