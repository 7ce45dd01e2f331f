-- The product of a number of 64 bits and a power of two, as a rotation.
use Rattle.std.proofs.Common.{◌≡◌, ℕ, ◌-◌, ◌*◌, ◌/◌, ◌%◌, ◌^◌, ◌<◌, ◌≤◌, inl, inr, w64, ap, ◌∙◌}
use Rattle.std.proofs.Common.{arith}
use Rattle.std.proofs.Math.Nat.{mod-eq_of_lt, div-eq_of_lt, le-mul_of_pos_right, pow-le-pow_right}
use Rattle.std.proofs.lemmas.Bool.{cases_lt}
use Rattle.std.proofs.lemmas.Nat.{pow_pos}
use Rattle.std.specs.Int.{rotate_left}
use Rattle.std.specs.Int.Bits.{or_zero_r}
use Rattle.std.specs.Int.Count.{count_trailing_zeros}
use Rattle.bittle_bits.proofs.WordEnds.{trailing_of_pow}

-- if a power of two fits in 32 bits, its exponent is below 32
small_exponent : (e : ℕ) → 2 ^ e < 4294967296 → e < 32
small_exponent e fits = elim (cases_lt e 32) [
  | inl lo ↦ lo
  | inr hi ↦
      let up : 2 ^ 32 ≤ 2 ^ e = pow-le-pow_right {n = 2} (omega arith) hi in
      absurd (omega (arith, fits, up))
]

-- if the product fits, the rotation moves the number by the exponent and no bit wraps around
pub rotated_product : (k e : ℕ) → 0 < e → 2 ^ e < 4294967296 → k * 2 ^ e < 4294967296 →
    rotate_left w64 k (count_trailing_zeros 32 (2 ^ e)) ≡ k * 2 ^ e
rotated_product k e some fits small =
    let low = small_exponent e fits in
    let by : count_trailing_zeros 32 (2 ^ e) % 64 ≡ e =
    ap (λ n. n % 64) (trailing_of_pow 32 e low) ∙ mod-eq_of_lt (omega arith) in
    let back : (64 - e) % 64 ≡ 64 - e = mod-eq_of_lt (omega arith) in
    let least : k ≤ k * 2 ^ e = le-mul_of_pos_right k (pow_pos e) in
    let wide : 2 ^ 32 ≤ 2 ^ (64 - e) = pow-le-pow_right {n = 2} (omega arith) {i = 32} {j = 64 - e}
    (omega arith) in
    let moved : k * 2 ^ e % 2 ^ 64 ≡ k * 2 ^ e = mod-eq_of_lt (omega arith) in
    let below : k / 2 ^ (64 - e) ≡ 0 = div-eq_of_lt (omega arith) in
    rw (by, back, moved, below) (or_zero_r (k * 2 ^ e))
