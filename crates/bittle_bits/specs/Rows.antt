-- A row of elements, as in an array or a slice, as one set.
use Rattle.std.specs.Prelude.{◌≡◌, ℕ, zero, suc, ◌+◌, ◌<◌, ◌≤◌, ◌*◌, ◌/◌, ◌%◌, Bool, true, false}
use Rattle.std.specs.Prelude.{◌&&◌, nat_lt, List, [], ◌∷◌, length, get_or}
use Rattle.bittle_bits.specs.PlainSet.{PlainSet, with_index, without_index}
use Rattle.bittle_bits.specs.SetOperations.{combination_of}

-- whether element n of the row passes the test; false if there is no such element
unfoldable pub at_element : {X : Type 0} → (X → Bool) → List X → ℕ → Bool
at_element p [] n = false
at_element p (x ∷ xs) zero = p x
at_element p (x ∷ xs) (suc n) = at_element p xs n

-- whether the number i is a member of a row of n elements of capacity c: its element, i / c, has
-- the member i % c
unfoldable pub row_has : {X : Type 0} → ℕ → ℕ → (X → ℕ → Bool) → List X → ℕ → Bool
row_has n c has xs i = nat_lt i (n * c) && at_element (λ x. has x (i % c)) xs (i / c)

-- the set of n elements, each of capacity c; member r of element q is member q * c + r of the row
abbrev pub row_set : {X : Type 0} → ℕ → ℕ → (X → PlainSet) → List X → PlainSet
row_set n c big xs = record { capacity = n * c; has = row_has n c (λ x. (big x).has) xs }

-- index i of a row of n elements of capacity c is index r of element q; i wraps at the capacity of
-- the row
pub record GoesTo (n c i q r : ℕ) : Type 0 where
  pub is_element : q < n
  pub within : r < c
  pub at : i % (n * c) ≡ q * c + r

-- the set with the index added if the flag is true, and else removed; the index wraps
abbrev pub with_bit : Bool → PlainSet → ℕ → PlainSet
with_bit true = with_index
with_bit false = without_index

-- the row xs became zs: its elements below n are combined with those of ys, and its later elements
-- are as they were
pub record IsCombinedBelow {X : Type 0} (f : Bool → Bool → Bool) (big : X → PlainSet)
    (xs ys zs : List X) (n : ℕ) : Type 0 where
  pub same : length zs ≡ length xs
  pub done : (k : ℕ) (d : X) → k < n →
      big (get_or zs k d) ≡ combination_of f (big (get_or xs k d)) (big (get_or ys k d))
  pub rest : (k : ℕ) (d : X) → n ≤ k → get_or zs k d ≡ get_or xs k d
