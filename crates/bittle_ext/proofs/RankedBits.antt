-- The bits of a word that is shifted down, as members of a set, and their number.
use Rattle.std.proofs.Common.{◌≡◌, ℕ, ◌+◌, ◌*◌, ◌/◌, ◌%◌, ◌^◌, ◌<◌, ◌≤◌, ◌==◌, Bool, sym, ap, ◌∙◌}
use Rattle.std.proofs.Common.{arith}
use Rattle.std.specs.Int.{bit_at}
use Rattle.std.specs.Int.Count.{ones}
use Rattle.std.proofs.lemmas.Nat.{mod_below, pow_pos}
use Rattle.bittle.specs.BitPatterns.{bit_has, bit_set}
use Rattle.bittle.specs.Orders.{read_in}
use Rattle.bittle.specs.PlainSet.{PlainSet, members_below}
use Rattle.bittle.specs.Words.{word_of}
use Rattle.bittle_bits.proofs.BitSets.{bit_has-at}
use Rattle.bittle_bits.proofs.Counts.{count-add, count-same}
use Rattle.bittle_bits.proofs.WordSizes.{size-bit_set}
use Rattle.bittle_bits.proofs.Words.{digit_at}
use Rattle.bittle_ext.specs.Numbers.{HasBitsOf}
use Rattle.bittle_ext.proofs.Windows.{bit_at_masked, bit_at_shifted}

-- the bits of word k, as a number, are those of the set from the start of the word on
pub bits_of_whole : (m : Bool) (w k p x : ℕ) (s : PlainSet) → 0 < w → bit_set w p ≡ word_of w s k →
    bit_set w x ≡ read_in m w (bit_set w p) → HasBitsOf (read_in m w s) (k * w) w x
bits_of_whole m w k p x s word ours ordered i h =
    sym (bit_has-at w x i h) ∙ ap (λ (u : PlainSet). u.has i) ordered
    ∙ digit_at m w k s p word ours i h

-- the number of set bits among the lowest `half` bits is the number of members in that range
pub low_counted : (s : PlainSet) (x v n half from : ℕ) → v ≡ x % 2 ^ half → n ≡ ones v →
    HasBitsOf s from half x → members_below s from + n ≡ members_below s (from + half)
low_counted s x v n half from is count bits =
    let small : v < 2 ^ half = omega (arith, is, mod_below x (2 ^ half) (pow_pos half)) in
    let counted = size-bit_set half v n count small in
    let same = count-same half (bit_has half v) (λ i. s.has (from + i)) (λ i h.
    bit_has-at half v i h ∙ ap (λ b. b == 1) (ap (λ y. bit_at y i) is ∙ bit_at_masked x half i h)
    ∙ bits i h) in
    omega (arith, counted, same, count-add from half s.has)

-- once the lowest `half` bits are shifted out, the number's bits are those of the set from
-- `from + half` on
pub bits_shifted : (s : PlainSet) (x half from rest : ℕ) → HasBitsOf s from (half + rest) x →
    HasBitsOf s (from + half) rest (x / 2 ^ half)
bits_shifted s x half from rest bits i h =
    ap (λ b. b == 1) (bit_at_shifted x half i) ∙ bits (i + half) (omega (arith, h))
    ∙ ap s.has (omega arith)

-- if the first `more` bits are those of the set, so are the first n, for n up to `more`
pub bits_fewer : (s : PlainSet) (x from n more : ℕ) → n ≤ more → HasBitsOf s from more x →
    HasBitsOf s from n x
bits_fewer s x from n more less bits i h = bits i (omega (arith, h, less))
