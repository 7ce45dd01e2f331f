-- The 128 bits of a number, reversed.
use Rattle.std.proofs.Common.{◌≡◌, ℕ, zero, suc, ◌+◌, ◌-◌, ◌*◌, ◌/◌, ◌%◌, ◌^◌, ◌<◌, ◌≤◌, Bool, true}
use Rattle.std.proofs.Common.{◌&&◌, ◌==◌, inl, inr, refl, sym, ap, ◌∙◌, arith, bit_and, bit_or, min}
use Rattle.std.proofs.Common.{max}
use Rattle.std.specs.Int.{bit_at}
use Rattle.std.proofs.Math.Nat.{mul-le-mul_right}
use Rattle.std.proofs.lemmas.Bool.{and_parts, cases_eq, cases_lt, eqb-true}
use Rattle.std.proofs.lemmas.Nat.{div-add-mod', div_below, mod_below, pow_pos}
use Rattle.std.proofs.lemmas.Nat.Bits.{bit_at-lt, bit_at-zero, bit_at_and, bit_at_cat_high}
use Rattle.std.proofs.lemmas.Nat.Bits.{bit_at_cat_low, bit_at_or}
use Rattle.bittle.specs.Orders.{mirror}
use Rattle.bittle_bits.proofs.PlaceLemmas.{mirror_at, mirror_in_word, mirror_is}
use Rattle.bittle_ext.proofs.Windows.{bit_at_masked, bit_at_shifted}

-- a number that is shifted up by d has no set bit below d
pub bit_at_up_low : (n d i : ℕ) → i < d → bit_at (n * 2 ^ d) i ≡ 0
bit_at_up_low n d i h =
    let e : n * 2 ^ d ≡ n * 2 ^ d + 0 = omega arith in
    ap (λ m. bit_at m i) e ∙ bit_at_cat_low n d 0 i h ∙ bit_at-zero i

-- from d on, a number that is shifted up by d has the bits of the number
pub bit_at_up_high : (n d i : ℕ) → d ≤ i → bit_at (n * 2 ^ d) i ≡ bit_at n (i - d)
bit_at_up_high n d i h =
    let e : n * 2 ^ d ≡ n * 2 ^ d + 0 = omega arith in
    ap (λ m. bit_at m i) e ∙ bit_at_cat_high n d 0 i (pow_pos d) h

-- whether each number below one passes a test
all_below : ℕ → (ℕ → Bool) → Bool
all_below zero p = true
all_below (suc n) p = p n && all_below n p

passes : (n : ℕ) (p : ℕ → Bool) → all_below n p ≡ true → (i : ℕ) → i < n → p i ≡ true
unfolding all_below
passes zero p all i h = absurd (omega arith)
passes (suc n) p all i h =
    let parts = and_parts (p n) (all_below n p) all in
    elim (cases_eq i n) [
      | inl e ↦ ap p e ∙ parts.0
      | inr other ↦ passes n p parts.1 i (omega (arith, other, h))
    ]

-- whether a mask has the bits of each first one of two blocks of d bits, and none of the second
abbrev is_mask : ℕ → ℕ → ℕ → Bool
is_mask c d mask = all_below c (λ q. all_below d (λ r.
    (bit_at mask (q * (2 * d) + r) == 1) && (bit_at mask (q * (2 * d) + d + r) == 0)))

-- z is y with the bits of the mask moved up by d, and the bits d above them moved down
abbrev pub Swapped : ℕ → ℕ → ℕ → ℕ → Type 0
Swapped d mask y z =
    z ≡ bit_or (bit_and y mask * 2 ^ d % 2 ^ 128) (bit_and (y / 2 ^ d) mask)

-- the bits of a number are those of another one, mirrored within each block of d bits
abbrev AreMirrored : ℕ → ℕ → ℕ → Type 0
AreMirrored d x y = (i : ℕ) → i < 128 → bit_at y i ≡ bit_at x (mirror d i)

-- once blocks of d bits change places, they are mirrored within blocks of twice as many
module _ (c d mask x y z : ℕ) (some : 0 < d) (parts : c * (2 * d) ≡ 128)
    (is : is_mask c d mask ≡ true) (swap : Swapped d mask y z) where
  masked : (q r : ℕ) → q < c → r < d →
      (bit_at mask (q * (2 * d) + r) ≡ 1) × (bit_at mask (q * (2 * d) + d + r) ≡ 0)
  masked q r h l =
      let both = and_parts _ _ (passes d _ (passes c _ is q h) r l) in
      (eqb-true _ _ both.0, eqb-true _ _ both.1)

  ends : (q : ℕ) → q < c → q * (2 * d) + 2 * d ≤ 128
  ends q h = let up : (q + 1) * (2 * d) ≤ c * (2 * d) =
      mul-le-mul_right (2 * d) (omega (arith, h)) in
      omega (arith, up, parts)

  bit : (i : ℕ) → i < 128 → bit_at z i ≡ max (bit_at (bit_and y mask * 2 ^ d) i)
      (min (bit_at y (i + d)) (bit_at mask i))
  bit i h =
      let low = bit_at_masked (bit_and y mask * 2 ^ d) 128 i h in
      let high = bit_at_and (y / 2 ^ d) mask i
      ∙ ap (λ b. min b (bit_at mask i)) (bit_at_shifted y d i) in
      ap (λ n. bit_at n i) swap ∙ bit_at_or _ _ i ∙ (λ j. max (low j) (high j))

  first_block : (q r : ℕ) → q < c → r < d →
      bit_at z (q * (2 * d) + r) ≡ bit_at y (q * (2 * d) + d + r)
  first_block q r h l =
      let i = q * (2 * d) + r in
      let none : bit_at (bit_and y mask * 2 ^ d) i ≡ 0 = elim (cases_eq q 0) [
        | inl e ↦ bit_at_up_low (bit_and y mask) d i (omega (arith, ap (λ n. n * (2 * d)) e, l))
        | inr n ↦
            let one : q ≡ q - 1 + 1 = omega (arith, n) in
            let at : i - d ≡ (q - 1) * (2 * d) + d + r =
            omega (arith, ap (λ n. n * (2 * d)) one) in
            let zero_there = (masked (q - 1) r (omega (arith, h)) l).1 in
            bit_at_up_high (bit_and y mask) d i (omega (arith, at, ap (λ n. n * (2 * d)) one))
            ∙ ap (bit_at (bit_and y mask)) at ∙ bit_at_and y mask _
            ∙ omega (arith, zero_there)
      ] in
      let up : bit_at y (i + d) ≡ bit_at y (q * (2 * d) + d + r) = ap (bit_at y) (omega arith) in
      bit i (omega (arith, ends q h, l))
      ∙ omega (arith, none, (masked q r h l).0, up, bit_at-lt y (i + d))

  second_block : (q r : ℕ) → q < c → r < d →
      bit_at z (q * (2 * d) + d + r) ≡ bit_at y (q * (2 * d) + r)
  second_block q r h l =
      let i = q * (2 * d) + d + r in
      let at : i - d ≡ q * (2 * d) + r = omega arith in
      let from_below : bit_at (bit_and y mask * 2 ^ d) i
      ≡ min (bit_at y (q * (2 * d) + r)) (bit_at mask (q * (2 * d) + r)) =
      bit_at_up_high (bit_and y mask) d i (omega arith) ∙ ap (bit_at (bit_and y mask)) at
      ∙ bit_at_and y mask _ in
      bit i (omega (arith, ends q h, l))
      ∙ omega (
        arith,
        from_below,
        (masked q r h l).0,
        (masked q r h l).1,
        bit_at-lt y (q * (2 * d) + r),
      )

  mirrored_more : AreMirrored d x y → AreMirrored (2 * d) x z
  mirrored_more before i h =
      let q = i / (2 * d) in
      let o = i % (2 * d) in
      let at : q * (2 * d) + o ≡ i = div-add-mod' i (2 * d) in
      let low : o < 2 * d = mod_below i (2 * d) (omega (arith, some)) in
      let within : q < c = div_below i (2 * d) c (omega (arith, some)) (omega (arith, h, parts)) in
      let goes = ap (mirror (2 * d)) (sym at) ∙ mirror_at (2 * d) q o low in
      elim (cases_lt o d) [
        | inl l ↦
            let e : q * (2 * d) + d + o ≡ (2 * q + 1) * d + o = omega arith in
            let comes = ap (mirror d) e ∙ mirror_at d (2 * q + 1) o l in
            ap (bit_at z) (sym at) ∙ first_block q o within l
            ∙ before (q * (2 * d) + d + o) (omega (arith, ends q within, l))
            ∙ ap (bit_at x) (omega (arith, comes, goes, l))
        | inr g ↦
            let r = o - d in
            let l : r < d = omega (arith, low) in
            let e : q * (2 * d) + r ≡ 2 * q * d + r = omega arith in
            let comes = ap (mirror d) e ∙ mirror_at d (2 * q) r l in
            let here : i ≡ q * (2 * d) + d + r = omega (arith, at, g) in
            ap (bit_at z) here ∙ second_block q r within l
            ∙ before (q * (2 * d) + r) (omega (arith, ends q within, l))
            ∙ ap (bit_at x) (omega (arith, comes, goes, l, g))
      ]

-- the seven swaps reverse all 128 bits
pub reversed_round : (x a b c d e f z : ℕ) →
    Swapped 1 113427455640312821154458202477256070485 x a →
    Swapped 2 68056473384187692692674921486353642291 a b →
    Swapped 4 20016609818878733144904388672456953615 b c →
    Swapped 8 1324055902416102970674609367438786815 c d →
    Swapped 16 5192217631581220737344928932233215 d e →
    Swapped 32 79228162495817593524129366015 e f →
    Swapped 64 18446744073709551615 f z →
    (i : ℕ) → i < 128 → bit_at z i ≡ bit_at x (127 - i)
unfolding all_below
reversed_round x a b c d e f z s1 s2 s4 s8 s16 s32 s64 i h =
    let m0 : AreMirrored 1 x x = λ j l. ap (bit_at x) (sym (mirror_is 1 j (omega arith)
    ∙ omega (arith, div-add-mod' j 1, mod_below j 1 (omega arith)))) in
    let m1 = mirrored_more 64 1 113427455640312821154458202477256070485 x x a (omega arith)
    (omega arith) refl s1 m0 in
    let m2 = mirrored_more 32 2 68056473384187692692674921486353642291 x a b (omega arith)
    (omega arith) refl s2 m1 in
    let m3 = mirrored_more 16 4 20016609818878733144904388672456953615 x b c (omega arith)
    (omega arith) refl s4 m2 in
    let m4 = mirrored_more 8 8 1324055902416102970674609367438786815 x c d (omega arith)
    (omega arith) refl s8 m3 in
    let m5 = mirrored_more 4 16 5192217631581220737344928932233215 x d e (omega arith) (omega arith)
    refl s16 m4 in
    let m6 = mirrored_more 2 32 79228162495817593524129366015 x e f (omega arith) (omega arith)
    refl s32 m5 in
    let m7 = mirrored_more 1 64 18446744073709551615 x f z (omega arith) (omega arith)
    refl s64 m6 in
    m7 i h ∙ ap (bit_at x) (mirror_in_word 128 i h)
