-- The bits of two words, one after the other, from an index on.
use Rattle.std.proofs.Common.{◌≡◌, ℕ, ◌+◌, ◌-◌, ◌*◌, ◌/◌, ◌%◌, ◌^◌, ◌<◌, ◌≤◌, true, ◌==◌, inl, inr}
use Rattle.std.proofs.Common.{sym, ap, ◌∙◌, arith, bit_and, bit_or, pow_mono, shr_lt, shr-shr}
use Rattle.std.specs.Int.{bit_at}
use Rattle.std.proofs.Math.Nat.{mul_assoc, mul-mod_left}
use Rattle.std.proofs.Math.Pow.{mod-mod-pow}
use Rattle.std.proofs.lemmas.Nat.{and_mask, mod_below, mod-pow-add, mul-add-lt, mul-mod_first}
use Rattle.std.proofs.lemmas.Nat.{or_shifted, pow_pos, pow-add, shl-shr, shr_split}
use Rattle.std.proofs.lemmas.Nat.Bits.{bit_at_cat_low, bit_at_cat_high}
use Rattle.std.proofs.lemmas.Bool.{cases_lt}
use Rattle.bittle.specs.BitPatterns.{bit_has, bit_set}
use Rattle.bittle.specs.Orders.{read_in}
use Rattle.bittle_bits.proofs.BitSets.{bit_has-at}
use Rattle.bittle_bits.proofs.PlaceLemmas.{mirror_in_word}
use Rattle.bittle_ext.specs.Rotations.{IsWindow}

-- bit i of a number that is shifted down by k is bit i + k of the number
pub bit_at_shifted : (n k i : ℕ) → bit_at (n / 2 ^ k) i ≡ bit_at n (i + k)
bit_at_shifted n k i =
    let e : k + i ≡ i + k = omega arith in
    ap (λ x. x % 2) (shr-shr n k i) ∙ ap (bit_at n) e

-- below k, the bits of a number modulo 2 ^ k are those of the number
pub bit_at_masked : (n k i : ℕ) → i < k → bit_at (n % 2 ^ k) i ≡ bit_at n i
bit_at_masked n k i h =
    sym (bit_at_cat_low (n / 2 ^ k) k (n % 2 ^ k) i h) ∙ ap (λ x. bit_at x i) (shr_split n k)

-- a word has at most 128 bits if the word of all ones is below 2 ^ 128
pub at_most_128 : (w ones : ℕ) → ones ≡ 2 ^ w - 1 → ones < 2 ^ 128 → w < 129
at_most_128 w ones all fits =
    elim (cases_lt w 129) [
      | inl l ↦ l
      | inr g ↦ let big : 2 ^ 129 ≤ 2 ^ w = pow_mono g in absurd (omega (arith, all, big))
    ]

-- a word that is shifted up and cut to its width keeps its `from` lowest bits
pub cut_upper : (w from rest second ones : ℕ) → from ≤ w → rest ≡ w - from → w < 129 →
    ones ≡ 2 ^ w - 1 →
    bit_and (second * 2 ^ rest % 2 ^ 128) ones ≡ second % 2 ^ from * 2 ^ rest
cut_upper w from rest second ones h left small all =
    let n = second * 2 ^ rest in
    let wide : 128 - w + w ≡ 128 = omega arith in
    let parts : from + rest ≡ w = omega (arith, left) in
    ap (bit_and (n % 2 ^ 128)) all ∙ and_mask (n % 2 ^ 128) w
    ∙ ap (λ k. n % 2 ^ k % 2 ^ w) (sym wide) ∙ mod-mod-pow n (128 - w) w
    ∙ ap (λ k. n % 2 ^ k) (sym parts) ∙ mod-pow-add n from rest
    ∙ omega (
      arith,
      ap (λ k. k % 2 ^ from * 2 ^ rest) (shl-shr second rest),
      mul-mod_left second (2 ^ rest),
    )

-- a word can be shifted up by 1 and then by the rest: cut to its width, the result is the same
pub cut_twice : (w from more rest second ones : ℕ) → from ≤ w → rest ≡ w - from → more + 1 ≡ rest →
    w < 129 → ones ≡ 2 ^ w - 1 →
    bit_and (second * 2 ^ 1 % 2 ^ 128 * 2 ^ more % 2 ^ 128) ones ≡ second % 2 ^ from * 2 ^ rest
cut_twice w from more rest second ones h left one small all =
    let up : 1 + more ≡ rest = omega (arith, one) in
    let twice : second * 2 ^ 1 * 2 ^ more ≡ second * 2 ^ rest =
    mul_assoc second (2 ^ 1) (2 ^ more) ∙ ap (λ p. second * p) (sym (pow-add 2 1 more))
    ∙ ap (λ k. second * 2 ^ k) up in
    ap (λ n. bit_and n ones) (mul-mod_first (second * 2 ^ 1) (2 ^ more) (2 ^ 128)
    ∙ ap (λ n. n % 2 ^ 128) twice) ∙ cut_upper w from rest second ones h left small all

-- a word can be shifted down by 1 and then by the rest
pub down_twice : (first more from : ℕ) → more + 1 ≡ from →
    first / 2 ^ 1 / 2 ^ more ≡ first / 2 ^ from
down_twice first more from one =
    let e : 1 + more ≡ from = omega (arith, one) in
    shr-shr first 1 more ∙ ap (λ k. first / 2 ^ k) e

module _ (w from rest first second upper lower r : ℕ) (h : from ≤ w) (left : rest ≡ w - from)
    (fits : first < 2 ^ w) (above : upper ≡ second % 2 ^ from * 2 ^ rest)
    (below : lower ≡ first / 2 ^ from) (is : r ≡ bit_or upper lower) where
  low : first / 2 ^ from < 2 ^ rest
  low = let parts : rest + from ≡ w = omega (arith, left) in
      shr_lt rest from (omega (arith, fits, ap (λ k. 2 ^ k) parts))

  value : r ≡ second % 2 ^ from * 2 ^ rest + first / 2 ^ from
  value = is ∙ rw (above, below) (or_shifted (second % 2 ^ from) rest (first / 2 ^ from) low)

  -- the low bits of the second word above the high ones of the first one are a word
  pub funnel_fits : r < 2 ^ w
  funnel_fits =
      let parts : from + rest ≡ w = omega (arith, left) in
      let high : second % 2 ^ from < 2 ^ from = mod_below second (2 ^ from) (pow_pos from) in
      let some = mul-add-lt (second % 2 ^ from) (2 ^ rest) (first / 2 ^ from) (2 ^ from) high low in
      omega (arith, value, some, pow-add 2 from rest, ap (λ k. 2 ^ k) parts)

  -- the low bits of the second word above the high ones of the first one are the window
  pub funnel_window : IsWindow w from (bit_set w first) (bit_set w second) (bit_set w r)
  funnel_window = record {
    first = λ i b. bit_has-at w r i (omega arith)
        ∙ ap (λ x. x == 1) (ap (λ x. bit_at x i) value
        ∙ bit_at_cat_low (second % 2 ^ from) rest (first / 2 ^ from) i (omega (arith, left))
        ∙ bit_at_shifted first from i)
        ∙ sym (bit_has-at w first (i + from) b);
    second = λ i b g.
        let e : i - rest ≡ i + from - w = omega (arith, left) in
        bit_has-at w r i b
        ∙ ap (λ x. x == 1) (ap (λ x. bit_at x i) value
        ∙ bit_at_cat_high (second % 2 ^ from) rest (first / 2 ^ from) i low (omega (arith, left))
        ∙ bit_at_masked second from (i - rest) (omega (arith, left))
        ∙ ap (bit_at second) e)
        ∙ sym (bit_has-at w second (i + from - w) (omega arith));
  }

-- the window over mirrored words is the mirrored window over the words in the other order
pub mirrored_window : (w from rest first second r : ℕ) → from ≤ w → rest ≡ w - from →
    IsWindow w rest (bit_set w second) (bit_set w first) (bit_set w r) →
    IsWindow w from (read_in true w (bit_set w first)) (read_in true w (bit_set w second))
    (read_in true w (bit_set w r))
mirrored_window w from rest first second r h left is = record {
  first = λ i b.
      let e : w - 1 - i + rest - w ≡ w - 1 - (i + from) = omega (arith, left) in
      ap (bit_has w r) (mirror_in_word w i (omega arith))
      ∙ is.second (w - 1 - i) (omega arith) (omega (arith, left))
      ∙ ap (bit_has w first) (e ∙ sym (mirror_in_word w (i + from) b));
  second = λ i b g.
      let e : w - 1 - i + rest ≡ w - 1 - (i + from - w) = omega (arith, left) in
      ap (bit_has w r) (mirror_in_word w i b)
      ∙ is.first (w - 1 - i) (omega (arith, left))
      ∙ ap (bit_has w second) (e ∙ sym (mirror_in_word w (i + from - w) (omega arith)));
}
