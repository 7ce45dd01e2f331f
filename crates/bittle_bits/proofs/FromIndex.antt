-- The word whose members are the indexes from a given one on.
use Rattle.std.proofs.Common.{◌≡◌, ℕ, ◌-◌, ◌*◌, ◌^◌, ◌<◌, ◌≤◌, ◌⊎◌, true, false, not, ◌&&◌, ◌||◌}
use Rattle.std.proofs.Common.{nat_lt, ◌==◌, inl, inr, refl, sym, ap, ◌∙◌, arith, bit_or}
use Rattle.std.proofs.Math.Bool.{and-false, or-true}
use Rattle.std.proofs.Math.Path.{fun_ext}
use Rattle.std.specs.Int.{bit_at}
use Rattle.std.proofs.lemmas.Nat.{pow_pos}
use Rattle.std.proofs.lemmas.Nat.Bits.{bit_at_above}
use Rattle.std.proofs.lemmas.Bool.{cases_eq, cases_lt, eq-eqb, ne_eqb, lt-ltb, le-ltb}
use Rattle.bittle_bits.specs.BitPatterns.{bit_has, bit_set}
use Rattle.bittle_bits.specs.LawProofs.{bit_has-past}
use Rattle.bittle_bits.specs.Orders.{mirror, read_in}
use Rattle.bittle_bits.specs.PlainSet.{full_set_from, lacks}
use Rattle.bittle_bits.proofs.BitSets.{bit_has-not, bit_has-or, bit_has-pow, all_digits}
use Rattle.bittle_bits.proofs.PlaceLemmas.{mirror_in_word, place_past}
use Rattle.bittle_bits.proofs.PlainSets.{plain_set}

-- the i bits of least weight
pub bit_has-low : (w i : ℕ) → i ≤ w → bit_has w (2 ^ i - 1) ≡ (λ k. nat_lt k i)
unfolding bit_has
bit_has-low w i h = fun_ext λ k.
    elim (cases_lt k i) [
      | inl l ↦
          let all : bit_has i (2 ^ i - 1) k ≡ nat_lt k i = ap (λ s. s.has k)
          (all_digits i 0 (2 ^ i - 1) refl (pow_pos i) (omega arith)) in
          let one : (bit_at (2 ^ i - 1) k == 1)
          ≡ true = sym (ap (λ b. b && (bit_at (2 ^ i - 1) k == 1)) (lt-ltb k i l)) ∙ all
          ∙ lt-ltb k i l in
          let in_word : k < w = omega arith in
          rw (lt-ltb k w in_word, one, lt-ltb k i l) refl
      | inr g ↦
          let zero : bit_at (2 ^ i - 1) k ≡ 0 = bit_at_above (2 ^ i - 1) i k
          (omega (arith, pow_pos i)) g in
          rw (zero, le-ltb k i g) (and-false (nat_lt k w))
    ]

-- in big-endian order, the word lacks exactly the bits below the index
pub big_from : (w i d e : ℕ) → i < w → d ≡ 2 ^ i - 1 → d < 2 ^ w → e ≡ 2 ^ w - 1 - d →
    read_in false w (bit_set w e) ≡ full_set_from w i
unfolding lacks
big_from w i d e h low fits is =
    ap (plain_set w) (ap (bit_has w) is ∙ bit_has-not w d fits
    ∙ fun_ext λ k. ap (λ p. nat_lt k w && not (p k))
    (ap (bit_has w) low ∙ bit_has-low w i (omega arith)))

-- in little-endian order, the word has the bit at the index's place and the bits below it
pub little_from : (w i p d e f : ℕ) → i < w → p ≡ w - 1 - i → d ≡ 2 ^ p - 1 → e ≡ 2 ^ p →
    f ≡ bit_or d e → read_in true w (bit_set w f) ≡ full_set_from w i
little_from w i p d e f h at low one is =
    let in_word : p < w = omega arith in
    let pattern : bit_has w f ≡ (λ k. nat_lt k p || (k == p)) =
    ap (bit_has w) is ∙ bit_has-or w d e ∙ ap (λ q k. q k || bit_has w e k)
    (ap (bit_has w) low ∙ bit_has-low w p (omega arith)) ∙ ap (λ q k. nat_lt k p || q k)
    (ap (bit_has w) one ∙ bit_has-pow w p in_word) in
    ap (plain_set w) (fun_ext λ k. elim (cases_lt k w) [
      | inl l ↦ ap (bit_has w f) (mirror_in_word w k l) ∙ ap (λ q. q (w - 1 - k)) pattern
          ∙ by k l (cases_lt k i)
      | inr g ↦ past k g
    ])
  where
    by : (k : ℕ) → k < w → (k < i) ⊎ (i ≤ k) →
        nat_lt (w - 1 - k) p || (w - 1 - k == p) ≡ nat_lt k w && not (nat_lt k i)
    by k l (inl b) =
        let far : p < w - 1 - k = omega arith in
        rw (
          le-ltb (w - 1 - k) p (omega arith),
          ne_eqb (w - 1 - k) p (λ z. absurd (omega arith)),
          lt-ltb k w l,
          lt-ltb k i b,
        ) refl
    by k l (inr b) = elim (cases_eq (w - 1 - k) p) [
      | inl z ↦ rw (eq-eqb (w - 1 - k) p z, lt-ltb k w l, le-ltb k i b)
          (or-true (nat_lt (w - 1 - k) p))
      | inr n ↦ let near : w - 1 - k < p = omega arith in
          rw (lt-ltb (w - 1 - k) p near, lt-ltb k w l, le-ltb k i b) refl
    ]

    past : (k : ℕ) → w ≤ k → bit_has w f (mirror w k) ≡ nat_lt k w && not (nat_lt k i)
    past k g =
        let one : 1 * w ≤ k = omega arith in
        let up = place_past true w 1 k (omega arith) one in
        rw (le-ltb k w g) (bit_has-past w f (mirror w k) (omega arith))
