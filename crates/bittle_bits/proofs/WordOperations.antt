-- The operations on two words.
use Rattle.std.proofs.Common.{◌≡◌, ℕ, ◌+◌, ◌-◌, ◌*◌, ◌%◌, ◌^◌, ◌<◌, Bool, not, ◌&&◌, ◌||◌, ◌==◌}
use Rattle.std.proofs.Common.{inl, inr, sym, ap, ◌∙◌, arith, bit_and, bit_or, bit_xor}
use Rattle.std.proofs.Math.Path.{fun_ext}
use Rattle.std.specs.Int.{bit_at}
use Rattle.std.proofs.lemmas.Nat.Bits.{bit_at_xor, bit_at-lt}
use Rattle.std.proofs.lemmas.Bool.{cases_lt, lt-ltb}
use Rattle.bittle_bits.specs.BitPatterns.{bit_has, bit_set}
use Rattle.bittle_bits.specs.LawProofs.{bit_has-past}
use Rattle.bittle_bits.specs.Orders.{read_in}
use Rattle.bittle_bits.specs.PlainSet.{lacks}
use Rattle.bittle_bits.specs.SetOperations.{combination_of, first_alone, just_one}
use Rattle.bittle_bits.proofs.BitSets.{bit_has-and, bit_has-or, bit_has-not, bit_has-at}
use Rattle.bittle_bits.proofs.PlainSets.{plain_set}
use Rattle.bittle_bits.proofs.SetOperations.{combination-below, combination-outside}
use Rattle.bittle_bits.proofs.SetOperations.{members-combination}

-- an operation on each bit of two words
module _ (f : Bool → Bool → Bool) (w a b r : ℕ) where
  -- if the bits of two words decide each bit of a word, its set is their combined set
  pub digits_combined : ((k : ℕ) → k < w →
      bit_has w r k ≡ f (bit_has w a k) (bit_has w b k)) →
      bit_set w r ≡ combination_of f (bit_set w a) (bit_set w b)
  digits_combined h =
      ap (plain_set w) (fun_ext λ k.
      elim (cases_lt k w) [
        | inl l ↦ h k l ∙ sym (combination-below f (bit_set w a) (bit_set w b) k l l)
        | inr g ↦ bit_has-past w r k g
            ∙ sym (combination-outside f (bit_set w a) (bit_set w b) k g
            ∙ bit_has-past w a k g)
      ])

  -- words combined in big-endian order are combined in each order
  pub word_combined : (m : Bool) → 0 < w →
      bit_set w r ≡ combination_of f (bit_set w a) (bit_set w b) →
      read_in m w (bit_set w r) ≡ combination_of f (read_in m w (bit_set w a))
      (read_in m w (bit_set w b))
  word_combined m word is =
      let one : (words : ℕ) × (w ≡ words * w) = (1, omega arith) in
      ap (read_in m w) is ∙ members-combination f m w (bit_set w a) (bit_set w b) word one one

-- the or of two words has the bits of either word
pub digits_either : (w a b : ℕ) → bit_set w (bit_or a b) ≡ combination_of ◌||◌ (bit_set w a)
    (bit_set w b)
digits_either w a b = digits_combined ◌||◌ w a b (bit_or a b)
    (λ k h. ap (λ p. p k) (bit_has-or w a b))

-- the and of two words has the bits that both words have
pub digits_both : (w a b : ℕ) → bit_set w (bit_and a b) ≡ combination_of ◌&&◌ (bit_set w a)
    (bit_set w b)
digits_both w a b = digits_combined ◌&&◌ w a b (bit_and a b)
    (λ k h. ap (λ p. p k) (bit_has-and w a b))

-- the and with the inverted second word has the bits that only the first word has
pub digits_first_alone : (w a b rest : ℕ) → b < 2 ^ w → rest ≡ 2 ^ w - 1 - b →
    bit_set w (bit_and a rest) ≡ combination_of first_alone (bit_set w a) (bit_set w b)
unfolding lacks
digits_first_alone w a b rest fits is =
    rw is (digits_combined first_alone w a b (bit_and a (2 ^ w - 1 - b)) (λ k h.
    ap (λ p. p k) (bit_has-and w a (2 ^ w - 1 - b)) ∙ ap (λ p. bit_has w a k && p k)
    (bit_has-not w b fits) ∙ ap (λ t. bit_has w a k && (t && not (bit_has w b k)))
    (lt-ltb k w h)))

one_of : (x y : ℕ) → x < 2 → y < 2 → ((x + y) % 2 == 1) ≡ just_one (x == 1) (y == 1)
one_of x y p q = grind arith

-- the exclusive or of two words has the bits that just one word has
pub digits_just_one : (w a b : ℕ) → bit_set w (bit_xor a b)
    ≡ combination_of just_one (bit_set w a) (bit_set w b)
digits_just_one w a b = digits_combined just_one w a b (bit_xor a b) (λ k h.
    bit_has-at w (bit_xor a b) k h ∙ ap (λ t. t == 1) (bit_at_xor a b k)
    ∙ one_of (bit_at a k) (bit_at b k) (bit_at-lt a k) (bit_at-lt b k)
    ∙ sym (ap (λ t. just_one t (bit_has w b k)) (bit_has-at w a k h)
    ∙ ap (just_one (bit_at a k == 1)) (bit_has-at w b k h)))
