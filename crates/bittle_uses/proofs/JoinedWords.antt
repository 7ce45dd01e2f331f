-- A word is put together again from its members.
use Rattle.std.proofs.Common.{◌≡◌, ℕ, zero, suc, ◌+◌, ◌%◌, ◌^◌, ◌<◌, ◌≤◌, Bool, true, false, cond}
use Rattle.std.proofs.Common.{List, ◌∷◌, refl, ap, ◌∙◌, arith}
use Rattle.std.specs.Int.Bits.{bit_xor, xor_shifted}
use Rattle.std.specs.List.{fold}
use Rattle.std.proofs.lemmas.Bool.Decides.{nat_tests}
use Rattle.std.proofs.lemmas.Nat.{mod-pow-add, xor_comm, pow_pos}
use Rattle.std.proofs.lemmas.Nat.Bits.{bit_at-lt}
use Rattle.bittle.specs.BitPatterns.{bit_has, bit_set}
use Rattle.bittle.specs.PlainSet.{ascending, ascending_from}

-- a word with its bit i flipped
abbrev pub flip : ℕ → ℕ → ℕ
flip w i = bit_xor w (2 ^ i)

-- the bits of m below k, with bit k flipped if m has it, are the bits of m below k + 1
one_more : (m k : ℕ) → k < 64 →
    cond (bit_has 64 m k) (flip (m % 2 ^ k) k) (m % 2 ^ k) ≡ m % 2 ^ suc k
unfolding bit_has
one_more m k h =
    let pos = pow_pos k in
    let low : m % 2 ^ k < 2 ^ k = omega arith in
    grind (
      arith,
      nat_tests,
      xor_comm (m % 2 ^ k) (2 ^ k),
      xor_shifted 1 k (m % 2 ^ k) low,
      mod-pow-add m 1 k,
      bit_at-lt m k,
    )

taken : (b : Bool) (w i : ℕ) (rest : List ℕ) →
    fold flip w (cond b (i ∷ rest) rest) ≡ fold flip (cond b (flip w i) w) rest
taken true w i rest = refl
taken false w i rest = refl

-- the bits of m below k, with its members from k to k + n flipped, are its bits below k + n
joined : (m k n : ℕ) → k + n ≤ 64 →
    fold flip (m % 2 ^ k) (ascending_from (bit_has 64 m) k n) ≡ m % 2 ^ (k + n)
unfolding ascending_from
joined m k zero h = let same : k ≡ k + 0 = omega arith in ap (λ j. m % 2 ^ j) same
joined m k (suc n) h =
    let rest = ascending_from (bit_has 64 m) (suc k) n in
    let same : suc k + n ≡ k + suc n = omega arith in
    taken (bit_has 64 m k) (m % 2 ^ k) k rest
    ∙ ap (λ w. fold flip w rest) (one_more m k (omega arith))
    ∙ joined m (suc k) n (omega arith) ∙ ap (λ j. m % 2 ^ j) same

-- 0 with all members flipped is the word
pub members_joined : (m : ℕ) → m < 2 ^ 64 → fold flip 0 (ascending (bit_set 64 m)) ≡ m
members_joined m h =
    let start : 0 ≡ m % 2 ^ 0 = omega arith in
    ap (λ w. fold flip w (ascending (bit_set 64 m))) start ∙ joined m 0 64 (omega arith)
    ∙ omega arith
