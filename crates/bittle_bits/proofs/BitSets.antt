-- What the operations on words do to the sets of their bits.
use Rattle.std.proofs.Common.{◌≡◌, ℕ, ◌+◌, ◌-◌, suc, ◌*◌, ◌/◌, ◌^◌, ◌<◌, ◌≤◌, Bool, true, false}
use Rattle.std.proofs.Common.{not, ◌&&◌, ◌||◌, ◌==◌, nat_lt, inl, inr, refl, sym, ap, ◌∙◌, arith}
use Rattle.std.proofs.Common.{bit_and, bit_or, min, max}
use Rattle.std.proofs.Math.Bool.{and-true}
use Rattle.std.proofs.Math.Path.{fun_ext}
use Rattle.std.specs.Int.{bit_at}
use Rattle.std.proofs.lemmas.Nat.{pow_pos, pow-add, pow_below, and-not, leading_top, le-div}
use Rattle.std.proofs.lemmas.Nat.{div_below, shl-shr}
use Rattle.std.proofs.Math.Nat.{pow-suc}
use Rattle.std.proofs.Math.Pow.{pow_mono}
use Rattle.std.proofs.lemmas.Nat.Bits.{and_pow, bit_at_or, bit_at_and, bit_at-pow_same}
use Rattle.std.proofs.lemmas.Nat.Bits.{bit_at-pow_other, bit_at-lt, bit_at-zero}
use Rattle.std.proofs.lemmas.Bool.{cases_eq, cases_lt, eq-eqb, ne_eqb, lt-ltb, le-ltb, ltb-true}
use Rattle.std.proofs.lemmas.Bool.{and_parts, and_right}
use Rattle.bittle_bits.specs.BitPatterns.{bit_has, bit_set}
use Rattle.bittle_bits.specs.PlainSet.{lacks, empty_set, full_set}
use Rattle.bittle_bits.specs.Orders.{read_in}
use Rattle.bittle_bits.proofs.PlainSets.{plain_set, full_set_in_each_order}

either : (t : Bool) (x y : ℕ) → x < 2 → y < 2 →
    (t && (max x y == 1)) ≡ (t && (x == 1)) || (t && (y == 1))
either t x y p q = grind arith

both : (t : Bool) (x y : ℕ) → x < 2 → y < 2 →
    (t && (min x y == 1)) ≡ (t && (x == 1)) && (t && (y == 1))
both t x y p q = grind arith

other : (t : Bool) (x y : ℕ) → x + y ≡ 1 → (t && (x == 1)) ≡ t && not (t && (y == 1))
other t x y h = grind arith

one_of_two : (a b x : ℕ) → 0 < x → a < 2 → b < 2 → a * x + b * x ≡ x → a + b ≡ 1
one_of_two a b x q u v e = grind arith

bit_at-complement : (w d k : ℕ) → d < 2 ^ w → k < w → bit_at (2 ^ w - 1 - d) k + bit_at d k ≡ 1
bit_at-complement w d k h l =
    let p = pow_below k w l in
    one_of_two _ _ (2 ^ k) (pow_pos k) (bit_at-lt _ k) (bit_at-lt d k)
    (rw (← and_pow (2 ^ w - 1 - d) k, ← and_pow d k) (and-not w d (2 ^ k) h p))

-- the or of two words has a bit set exactly if either word has it
pub bit_has-or : (w a b : ℕ) → bit_has w (bit_or a b)
    ≡ (λ k. bit_has w a k || bit_has w b k)
unfolding bit_has
bit_has-or w a b = fun_ext λ k. rw (bit_at_or a b k)
    (either (nat_lt k w) (bit_at a k) (bit_at b k) (bit_at-lt a k) (bit_at-lt b k))

-- the and of two words has a bit set exactly if both words have it
pub bit_has-and : (w a b : ℕ) → bit_has w (bit_and a b)
    ≡ (λ k. bit_has w a k && bit_has w b k)
unfolding bit_has
bit_has-and w a b = fun_ext λ k. rw (bit_at_and a b k)
    (both (nat_lt k w) (bit_at a k) (bit_at b k) (bit_at-lt a k) (bit_at-lt b k))

-- the inverted word has a bit set exactly if the bit is unset in the word
pub bit_has-not : (w d : ℕ) → d < 2 ^ w → bit_has w (2 ^ w - 1 - d) ≡ lacks (bit_set w d)
unfolding bit_has lacks
bit_has-not w d h = fun_ext λ k.
    elim (cases_lt k w) [
      | inl l ↦ other (nat_lt k w) (bit_at (2 ^ w - 1 - d) k) (bit_at d k)
          (bit_at-complement w d k h l)
      | inr g ↦ rw (le-ltb k w g) refl
    ]

-- a power of two shifted down is the power of the difference of the exponents
pub shifted_power : (p n : ℕ) → n ≤ p → 2 ^ p / 2 ^ n ≡ 2 ^ (p - n)
shifted_power p n h =
    let e : p ≡ p - n + n = omega arith in
    ap (λ t. 2 ^ t / 2 ^ n) e ∙ ap (λ t. t / 2 ^ n) (pow-add 2 (p - n) n) ∙ shl-shr (2 ^ (p - n)) n

-- the lesser of two powers of two has the lesser exponent
pub exponent_below : (p n : ℕ) → 2 ^ p < 2 ^ n → p < n
exponent_below p n h = elim (cases_lt p n) [
  | inl l ↦ l
  | inr g ↦ absurd (omega (arith, pow_mono g))
]

-- a power of two has one bit set, at its exponent
pub bit_has-pow : (w p : ℕ) → p < w → bit_has w (2 ^ p) ≡ (λ k. k == p)
unfolding bit_has
bit_has-pow w p h = fun_ext λ k.
    elim (cases_eq k p) [
      | inl e ↦ rw e (rw (lt-ltb p w h, bit_at-pow_same p) (sym (eq-eqb p p refl)))
      | inr n ↦ rw (bit_at-pow_other p k n)
          (and_right (nat_lt k w) (0 == 1) refl ∙ sym (ne_eqb k p n))
    ]

-- the word 0 has no bit set
pub bit_has-zero : (w d : ℕ) → d ≡ 0 → bit_has w d ≡ (λ _. false)
unfolding bit_has
bit_has-zero w d is = fun_ext λ k. rw is
    (ap (λ t. nat_lt k w && (t == 1)) (bit_at-zero k) ∙ and_right (nat_lt k w) false refl)

-- below the width, a bit of the word is the bit of the pattern
pub bit_has-at : (w d k : ℕ) → k < w → bit_has w d k ≡ (bit_at d k == 1)
unfolding bit_has
bit_has-at w d k h = ap (λ t. t && (bit_at d k == 1)) (lt-ltb k w h)

-- a bit that is set is below the width
pub bit_has-below : (w d k : ℕ) → bit_has w d k ≡ true → k < w
unfolding bit_has
bit_has-below w d k h = ltb-true k w (and_parts (nat_lt k w) (bit_at d k == 1) h).0

-- the set of the word 0 is empty
pub no_digits : (w d : ℕ) → d ≡ 0 → bit_set w d ≡ empty_set w
no_digits w d is = ap (plain_set w) (bit_has-zero w d is)

-- the set of the inverted word 0 is full
pub all_digits : (w z d : ℕ) → z ≡ 0 → z < 2 ^ w → d ≡ 2 ^ w - 1 - z → bit_set w d ≡ full_set w
unfolding lacks
all_digits w z d none fits is =
    ap (plain_set w) (rw is (bit_has-not w z fits)
    ∙ fun_ext λ k. ap (λ t. nat_lt k w && not (t k)) (bit_has-zero w z none)
    ∙ and-true (nat_lt k w))

-- in a word with all its bits set, each number below the width is a member, in each order
pub full_word : (w d : ℕ) → 0 < w → bit_set w d ≡ full_set w → (m : Bool) →
    read_in m w (bit_set w d) ≡ full_set w
full_word w d word = full_set_in_each_order w w (bit_set w d) word (1, omega arith)

-- a number between a power of two and the next one has the bit of the lesser power set
pub top_digit : (k d : ℕ) → 2 ^ k ≤ d → d < 2 ^ suc k → bit_at d k ≡ 1
top_digit k d lo hi =
    let a : 1 ≤ d / 2 ^ k = le-div 1 d (2 ^ k) (pow_pos k) (omega arith) in
    let b : d / 2 ^ k < 2 = div_below d (2 ^ k) 2 (pow_pos k) (omega (arith, pow-suc 2 k)) in
    let e : d / 2 ^ k ≡ 1 = omega arith in
    rw e refl

-- a word that is not 0 has a bit set
pub some_digit : (w d : ℕ) → d < 2 ^ w → (d ≡ 0 → ⊥) → (k : ℕ) × (bit_has w d k ≡ true)
some_digit w d fits some =
    let t = leading_top w d (omega arith) fits in
    let k = t.0 in
    let low : k < w = omega (arith, t.1) in
    (k, bit_has-at w d k low ∙ eq-eqb (bit_at d k) 1 (top_digit k d t.2 t.3))
