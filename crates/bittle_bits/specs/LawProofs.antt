-- Proofs of the laws that the impls of the traits state.
use Rattle.std.proofs.Common.{◌≡◌, ℕ, ◌+◌, ◌*◌, ◌^◌, ◌≤◌, ◌<◌, ℤ, Bool, ◌&&◌, List, [], refl, true}
use Rattle.std.proofs.Common.{false, nat_eq, min, IsTrue, inl, inr, sym, ap, ◌∙◌, arith}
use Rattle.std.proofs.lemmas.Bool.{cases_lt, le-ltb, eqb-true}
use Rattle.std.proofs.lemmas.Nat.{pow_pos}
use Rattle.std.specs.Cmp.{signed_Decides}
use Rattle.std.specs.Ordering.{int_eq}
use Rattle.bittle_bits.specs.BitPatterns.{bit_has, bit_set}
use Rattle.bittle_bits.specs.Decided.{has_decided}
use Rattle.bittle_bits.specs.PlainSet.{PlainSet}
use Rattle.bittle_bits.specs.Shapes.{Fits}

-- a word of w bits has no set bit whose weight is 2 ^ w or more
pub bit_has-past : (w d i : ℕ) → w ≤ i → bit_has w d i ≡ false
unfolding bit_has
bit_has-past w d i h = rw (le-ltb i w h)

-- the width of a word is a whole number of words: one
pub one_word : (w : ℕ) → (words : ℕ) × (w ≡ words * w)
one_word w = (1, omega arith)

-- the set of a word's bits has no member from the capacity on
pub none_past_word : (w d : ℕ) (s : PlainSet) → s ≡ bit_set w d → (i : ℕ) → s.capacity ≤ i →
    s.has i ≡ false
none_past_word w d s is i h = rw (is) (bit_has-past w d i (rw (is) at h))

-- the capacity of a word is the capacity of its type
pub word_capacity : (w d c : ℕ) (s : PlainSet) → s ≡ bit_set w d → c ≡ w → s.capacity ≡ c
word_capacity w d c s is same = rw (is, same) refl

-- a capacity that is the width of a word is a whole number of words: one
pub one_word_whole : (w own c : ℕ) → w ≡ own → c ≡ own → (words : ℕ) × (c ≡ words * w)
one_word_whole w own c same whole = rw (whole, same) (one_word own)

-- a word has at least one bit
pub positive_width : (w own : ℕ) → w ≡ own → 0 < own → 0 < w
positive_width w own same h = omega (arith, same, h)

-- equal words stand for the same set
pub equal_words : (w u v : ℕ) → IsTrue (nat_eq u v) → bit_set w u ≡ bit_set w v
equal_words w u v h = ap (bit_set w) (eqb-true u v h)

-- equal signed words stand for the same set, whatever function gives their patterns
pub equal_signed_words : (w : ℕ) (pattern : ℤ → ℕ) (u v : ℤ) → IsTrue (int_eq u v) →
    bit_set w (pattern u) ≡ bit_set w (pattern v)
equal_signed_words w pattern u v h = ap (λ x. bit_set w (pattern x)) ((signed_Decides u v).0 h)

-- The values of an integer type are words, and each stands for the set of its bits. The shape has
-- the width and the capacity of the word, and fits. All values hold the same borrows, and equal
-- values stand for the same set.
pub record IsWord {V : Type 0} (eq : V → V → Bool) (indexable : Bool) (capacity width own : ℕ)
    (big : V → PlainSet) (pattern : V → ℕ) (loan : V → List ℕ) : Type 0 where
  pub same_width : width ≡ own
  pub same_capacity : capacity ≡ own
  pub is_owned : (u v : V) → loan u ≡ loan v
  pub fits : Fits indexable capacity
  pub big_is_pattern : (v : V) → big v ≡ bit_set own (pattern v)
  pub same_pattern : (u v : V) → IsTrue (eq u v) → big u ≡ big v

-- `IsWord` holds for the unsigned integer type of w bits, where the pattern of a value is the value
-- itself
pub unsigned_word : (w : ℕ) → w < 4294967295 →
    IsWord nat_eq true w w w (λ x. bit_set w x) (λ x. x) (λ _. [])
unsigned_word w few = record {
  same_width = refl;
  same_capacity = refl;
  is_owned = λ u v. refl;
  fits = (refl, few);
  big_is_pattern = λ v. refl;
  same_pattern = equal_words w;
}

-- `IsWord` holds for the signed integer type of w bits
pub signed_word : (w : ℕ) (pattern : ℤ → ℕ) → w < 4294967295 →
    IsWord int_eq true w w w (λ x. bit_set w (pattern x)) pattern (λ _. [])
signed_word w pattern few = record {
  same_width = refl;
  same_capacity = refl;
  is_owned = λ u v. refl;
  fits = (refl, few);
  big_is_pattern = λ v. refl;
  same_pattern = equal_signed_words w pattern;
}

-- a word of whole bytes has at least one bit
pub positive_bytes : (w : ℕ) → (log : ℕ) × (w ≡ 2 ^ (3 + log)) → 0 < w
positive_bytes w bytes = rw bytes.1 (pow_pos (3 + bytes.0))

-- the result of an operation on two sets, limited to the numbers below n, has no member from n on
pub none_past_decided : (f : Bool → Bool → Bool) (n : ℕ) (s t : PlainSet) (i : ℕ) → n ≤ i →
    has_decided f n s t i ≡ false
unfolding has_decided
none_past_decided f n s t i past = ap (λ b. b && f (s.has i) (t.has i)) (le-ltb i n past)

-- if two capacities are whole numbers of words of the same width, then so is the lesser of them
pub whole_lesser : (a b w v c : ℕ) → w ≡ v → c ≡ min a b → (words : ℕ) × (a ≡ words * w) →
    (words : ℕ) × (b ≡ words * v) → (words : ℕ) × (c ≡ words * w)
whole_lesser a b w v c same is ours theirs =
    elim (cases_lt a b) [
      | inl l ↦ let e : c ≡ a = omega (arith, is, l) in (ours.0, e ∙ ours.1)
      | inr g ↦ let e : c ≡ b = omega (arith, is, g) in
          (theirs.0, e ∙ theirs.1 ∙ ap (λ n. theirs.0 * n) (sym same))
    ]
