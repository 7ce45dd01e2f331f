-- How many bits of a word are set, and whether any is.
use Rattle.std.proofs.Common.{◌≡◌, ℕ, zero, suc, ◌+◌, ◌-◌, ◌*◌, ◌%◌, ◌^◌, ◌<◌, Bool, ◌&&◌, ◌==◌}
use Rattle.std.proofs.Common.{cond, [], length, inl, inr, sym, ap, ◌∙◌, arith, add_comm}
use Rattle.std.proofs.Math.Nat.{mod-eq_of_lt}
use Rattle.std.specs.Int.{bit_at}
use Rattle.std.specs.Int.Count.{ones, ones-ones}
use Rattle.std.proofs.lemmas.Nat.{ones_cat, mod-pow-add, mod_below, pow_pos}
use Rattle.std.proofs.lemmas.Nat.Bits.{bit_at-lt}
use Rattle.std.proofs.lemmas.Bool.{cases_eq, lt-ltb, eq-eqb, eqb-true, ne_eqb}
use Rattle.bittle_bits.specs.BitPatterns.{bit_has, bit_set}
use Rattle.bittle_bits.specs.LawProofs.{one_word}
use Rattle.bittle_bits.specs.Orders.{place, read_in}
use Rattle.bittle_bits.specs.PlainSet.{count_below, size, complement, ascending}
use Rattle.bittle_bits.proofs.AscendingLists.{ascending-length, ascending-none}
use Rattle.bittle_bits.proofs.BitSets.{bit_has-zero, bit_has-not, bit_has-below, some_digit}
use Rattle.bittle_bits.proofs.Counts.{count-same, count-some, count-never}
use Rattle.bittle_bits.proofs.Sizes.{size-complement, size_in_each_order}

-- the ones of a single bit
one_digit : (b : ℕ) → b < 2 → ones b ≡ cond (b == 1) 1 0
one_digit b h = elim (cases_eq b 0) [
  | inl e ↦ rw e (ones-ones 0)
  | inr n ↦ let e : b
      ≡ 1 = omega arith in rw e (ones-ones 1)
]

low_digits : (k d : ℕ) → count_below k (λ i. bit_at d i == 1) ≡ ones (d % 2 ^ k)
unfolding count_below
low_digits zero d = let e : d % 1 ≡ 0 = omega (arith, mod_below d 1 (omega arith)) in
    sym (ap ones e ∙ ones-ones 0)
low_digits (suc k) d =
    let o : 1 + k ≡ suc k = omega arith in
    let e : d % 2 ^ suc k ≡ bit_at d k * 2 ^ k + d % 2 ^ k = rw o at (mod-pow-add d 1 k) in
    ap (λ n. n + cond (bit_at d k == 1) 1 0) (low_digits k d)
    ∙ sym (ap ones e ∙ ones_cat k (bit_at d k) (d % 2 ^ k) (mod_below d (2 ^ k) (pow_pos k))
    ∙ ap (λ n. n + ones (d % 2 ^ k)) (one_digit (bit_at d k) (bit_at-lt d k)) ∙ add_comm _ _)

-- the number of ones of a pattern is the number of bits that are set
pub size-bit_set : (w d n : ℕ) → n ≡ ones d → d < 2 ^ w → n ≡ count_below w (bit_has w d)
unfolding bit_has
size-bit_set w d n is h =
    is ∙ sym (count-same w _ _ (λ k l. ap (λ t. t && (bit_at d k == 1)) (lt-ltb k w l))
    ∙ low_digits w d ∙ ap ones (mod-eq_of_lt h))

-- a word is 0 exactly if the size of its set is 0
pub word_empty : (w d : ℕ) → d < 2 ^ w → (d == 0) ≡ (size (bit_set w d) == 0)
word_empty w d fits =
    elim (cases_eq d 0) [
      | inl z ↦ eq-eqb d 0 z ∙ sym (eq-eqb _ 0
          (ap (count_below w) (bit_has-zero w d z) ∙ count-never w))
      | inr n ↦ let k = some_digit w d fits n in
          let m = count-some w k.0 (bit_has w d) (bit_has-below w d k.0 k.1) k.1 in
          ne_eqb d 0 n ∙ sym (ne_eqb _ 0 (λ z. omega arith))
    ]

-- the inverted word is 0 exactly if the size of the word's set is the width
pub word_full : (w d e : ℕ) → d < 2 ^ w → e < 2 ^ w → e ≡ 2 ^ w - 1 - d →
    (e == 0) ≡ (size (bit_set w d) == w)
word_full w d e fits low is =
    let rest : size (bit_set w e) ≡ size (complement (bit_set w d)) = ap (count_below w)
    (ap (bit_has w) is ∙ bit_has-not w d fits) in
    let all = size-complement (bit_set w d) in
    word_empty w e low ∙ elim (cases_eq (size (bit_set w d)) w) [
      | inl y ↦ eq-eqb _ 0 (omega arith) ∙ sym (eq-eqb _ w y)
      | inr n ↦ ne_eqb _ 0 (λ z. n (omega arith)) ∙ sym (ne_eqb _ w n)
    ]

-- the list of the word 0 is empty in each order
pub zero_lists_none : (m : Bool) (w d : ℕ) → d ≡ 0 → ascending (read_in m w (bit_set w d)) ≡ []
zero_lists_none m w d is = ascending-none (read_in m w (bit_set w d))
    (λ k h. ap (λ p. p (place m w k)) (bit_has-zero w d is))

-- a word whose list is empty in an order is 0
pub none_listed : (m : Bool) (w d : ℕ) → 0 < w → d < 2 ^ w →
    ascending (read_in m w (bit_set w d)) ≡ [] → d ≡ 0
none_listed m w d word fits none =
    let sized = size_in_each_order w (bit_set w d) (λ n. n == 0) (d == 0) word (one_word w)
    (word_empty w d fits) m in
    eqb-true d 0 (sized ∙ eq-eqb _ 0 (sym (ascending-length (read_in m w (bit_set w d)))
    ∙ ap length none))
