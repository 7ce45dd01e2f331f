-- The result of an operation on two sets, word by word.
use Rattle.std.proofs.Common.{◌≡◌, ℕ, ◌+◌, ◌*◌, ◌/◌, ◌<◌, ◌≤◌, Bool, ◌&&◌, inl, inr, Option, Some}
use Rattle.std.proofs.Common.{None, MatchOption, refl, sym, ap, ◌∙◌, arith}
use Rattle.std.proofs.Math.Path.{fun_ext}
use Rattle.std.proofs.Math.Nat.{mul-div_left}
use Rattle.std.proofs.lemmas.Bool.{cases_lt, lt-ltb, le-ltb}
use Rattle.bittle_bits.specs.BitPatterns.{bit_set}
use Rattle.bittle_bits.specs.Decided.{has_decided, decided_below, NoneDecidedBelow, IsFirstDecided}
use Rattle.bittle_bits.specs.Orders.{place, read_in}
use Rattle.bittle_bits.specs.PlainSet.{PlainSet}
use Rattle.bittle_bits.specs.Searches.{IsFirstIn}
use Rattle.bittle_bits.specs.SetOperations.{combination_of}
use Rattle.bittle_bits.specs.Words.{word_has, word_of}
use Rattle.bittle_bits.proofs.PlaceLemmas.{place_below}
use Rattle.bittle_bits.proofs.PlainSets.{plain_set}
use Rattle.bittle_bits.proofs.SetOperations.{combination-below, combination-outside}
use Rattle.bittle_bits.proofs.Words.{word_has-at}

-- the result of an operation on word k of each of two sets is word k of the result on the sets
pub word_decided : (f : Bool → Bool → Bool) (w k n x : ℕ) (s t : PlainSet) → k * w + w ≤ n →
    bit_set w x ≡ combination_of f (word_of w s k) (word_of w t k) →
    bit_set w x ≡ word_of w (decided_below f n s t) k
unfolding has_decided word_has
word_decided f w k n x s t within is = is ∙ ap (plain_set w) (fun_ext λ i. elim (cases_lt i w) [
  | inl l ↦ combination-below f (word_of w s k) (word_of w t k) i l l
      ∙ (λ j. f (word_has-at w s k i l j) (word_has-at w t k i l j))
      ∙ sym (word_has-at w (decided_below f n s t) k i l
      ∙ ap (λ b. b && f (s.has (k * w + i)) (t.has (k * w + i)))
      (lt-ltb (k * w + i) n (omega (arith, within, l))))
  | inr g ↦ combination-outside f (word_of w s k) (word_of w t k) i g ∙ rw (le-ltb i w g) refl
])

-- the members of what an operation makes of two sets, in an order
module _ (f : Bool → Bool → Bool) (m : Bool) (w n : ℕ) (s t : PlainSet) (word : 0 < w)
    (whole : (words : ℕ) × (n ≡ words * w)) where
  decided_at : (i : ℕ) → i < n → (read_in m w (decided_below f n s t)).has i
      ≡ f ((read_in m w s).has i) ((read_in m w t).has i)
  unfolding has_decided
  decided_at i h =
      let low : place m w i < whole.0 * w =
      place_below m w whole.0 i word (omega (arith, h, whole.1))
      in
      ap (λ b. b && f (s.has (place m w i)) (t.has (place m w i)))
      (lt-ltb (place m w i) n (omega (arith, low, whole.1)))

  -- the first member of the result, read in an order, is the first member that the operation gives
  -- on the two sets, read in that order
  pub first_decided : (end : ℕ) (r : Option ℕ) → end ≤ n →
      IsFirstIn (read_in m w (decided_below f n s t)) 0 end r →
      MatchOption r (NoneDecidedBelow f (read_in m w s) (read_in m w t) end)
      (IsFirstDecided f (read_in m w s) (read_in m w t))
  first_decided end None within none =
      λ i l. sym (decided_at i (omega arith)) ∙ none i (omega arith) l
  first_decided end (Some d) within first = (
    (λ i l. sym (decided_at i (omega (arith, first.1))) ∙ first.3 i (omega arith) l),
    sym (decided_at d (omega (arith, first.1))) ∙ first.2,
  )

-- a capacity of whole words is the number of its words times the width
pub words_make_up : (w n : ℕ) → 0 < w → (words : ℕ) × (n ≡ words * w) → n / w * w ≡ n
words_make_up w n word whole = rw (whole.1) (ap (λ k. k * w) (mul-div_left whole.0 word))

-- a search of the numbers below n also tells of the numbers below a lesser b
pub none_or_first : (f : Bool → Bool → Bool) (s t : PlainSet) (n b : ℕ) (r : Option ℕ) → b ≤ n →
    MatchOption r (NoneDecidedBelow f s t n) (IsFirstDecided f s t) →
    MatchOption r (NoneDecidedBelow f s t b) (IsFirstDecided f s t)
none_or_first f s t n b None le h = λ i p. h i (omega (arith, le, p))
none_or_first f s t n b (Some d) le h = h
