-- Proofs of the laws that the impls for rows of elements state.
use Rattle.std.proofs.Common.{◌≡◌, ℕ, zero, suc, ◌*◌, ◌/◌, ◌%◌, ◌<◌, ◌≤◌, Bool, false, ◌&&◌, nat_lt}
use Rattle.std.proofs.Common.{IsTrue, List, [], ◌∷◌, refl, sym, ap, ◌∙◌}
use Rattle.std.proofs.Math.Nat.{mul_assoc}
use Rattle.std.proofs.lemmas.Bool.{le-ltb, ltb-true, and_parts, true≢false}
use Rattle.std.specs.Cmp.Lexicographic.{pointwise}
use Rattle.bittle_bits.specs.PlainSet.{PlainSet}
use Rattle.bittle_bits.specs.Rows.{at_element, row_has, row_set}

-- a row of n elements of capacity c has no member from its capacity n * c on
pub row_has-past : {X : Type 0} (n c : ℕ) (f : X → ℕ → Bool) (xs : List X) (i : ℕ) →
    n * c ≤ i → row_has n c f xs i ≡ false
unfolding row_has
row_has-past n c f xs i h = rw (le-ltb i (n * c) h)

-- the capacity of a row is a whole number of words if the capacity of each element is one
pub words_of : (n c w : ℕ) → (words : ℕ) × (c ≡ words * w) → (words : ℕ) × (n * c ≡ words * w)
words_of n c w h = (n * h.0, ap (λ t. n * t) h.1 ∙ sym (mul_assoc n h.0 w))

-- if the test `a && nat_lt m n` is true, then m is below n
pub second_is_below : (a : Bool) (m n : ℕ) → IsTrue (a && nat_lt m n) → m < n
second_is_below a m n h = ltb-true m n (and_parts a (nat_lt m n) h).1

module _ {X : Type 0} {eq : X → X → Bool} (c : ℕ) (big : X → PlainSet) (each : (x y : X) →
    IsTrue (eq x y) → big x ≡ big y) where
  -- rows that are equal element by element agree on each member of each element
  equal_elements : (xs ys : List X) (q r : ℕ) → IsTrue (pointwise eq xs ys) →
      at_element (λ x. (big x).has r) xs q ≡ at_element (λ x. (big x).has r) ys q
  unfolding at_element
  equal_elements [] [] q r h = refl
  equal_elements [] (y ∷ ys) q r h = absurd (true≢false (sym h))
  equal_elements (x ∷ xs) [] q r h = absurd (true≢false (sym h))
  equal_elements (x ∷ xs) (y ∷ ys) zero r h = ap (λ s. s.has r)
      (each x y (and_parts (eq x y) (pointwise eq xs ys) h).0)
  equal_elements (x ∷ xs) (y ∷ ys) (suc q) r h = equal_elements xs ys q r
      (and_parts (eq x y) (pointwise eq xs ys) h).1

  -- rows that are equal element by element agree on each number
  same_test : (n : ℕ) (xs ys : List X) → IsTrue (pointwise eq xs ys) → (i : ℕ) →
      row_has n c (λ x. (big x).has) xs i ≡ row_has n c (λ x. (big x).has) ys i
  unfolding row_has
  same_test n xs ys h i = ap (λ b. nat_lt i (n * c) && b) (equal_elements xs ys (i / c) (i % c) h)

-- two rows that are equal element by element stand for the same set
pub equal_rows : {X : Type 0} {eq : X → X → Bool} (n c : ℕ) (big : X → PlainSet) →
    ((x y : X) → IsTrue (eq x y) → big x ≡ big y) →
    (xs ys : List X) → IsTrue (pointwise eq xs ys) →
    row_set n c big xs ≡ row_set n c big ys
equal_rows n c big each xs ys h = λ k. record
    { capacity = n * c; has = λ i. same_test c big each n xs ys h i k }
