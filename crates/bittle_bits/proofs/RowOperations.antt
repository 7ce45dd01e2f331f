-- The operations on two rows of elements.
use Rattle.std.proofs.Common.{◌≡◌, ℕ, zero, suc, ◌+◌, ◌*◌, ◌<◌, ◌≤◌, Bool, inl, inr, refl, sym, ap}
use Rattle.std.proofs.Common.{◌∙◌, arith, List, [], ◌∷◌, length, get_or, set}
use Rattle.std.proofs.Math.Path.{fun_ext}
use Rattle.std.proofs.Math.Nat.{mul-le-mul_right}
use Rattle.std.proofs.lemmas.List.{get_or-set_same, get_or-set_other, get_or_default, length-set}
use Rattle.std.proofs.lemmas.Nat.{mul-add-lt}
use Rattle.std.proofs.lemmas.Bool.{cases_eq, cases_lt}
use Rattle.bittle_bits.specs.RowLawProofs.{row_has-past}
use Rattle.bittle_bits.specs.PlainSet.{PlainSet}
use Rattle.bittle_bits.specs.Rows.{at_element, row_has, row_set, IsCombinedBelow}
use Rattle.bittle_bits.specs.SetOperations.{combination_has, combination_of}
use Rattle.bittle_bits.proofs.PlainSets.{plain_set}
use Rattle.bittle_bits.proofs.RowSets.{elements_has_at, by_place}
use Rattle.bittle_bits.proofs.SetOperations.{combination-below, combination-past}
use Rattle.bittle_bits.proofs.SetOperations.{combination-outside}

-- an element of a row that is not empty
some_of : {X : Type 0} (xs : List X) (n : ℕ) → n < length xs → X
some_of [] n h = absurd (omega arith)
some_of (x ∷ xs) n h = x

-- the test at a place of the row is the test of the element at that place
pub at_element-get : {X : Type 0} (p : X → Bool) (xs : List X) (n : ℕ) (d : X) → n < length xs →
    at_element p xs n ≡ p (get_or xs n d)
unfolding at_element
at_element-get p [] n d h = absurd (omega arith)
at_element-get p (x ∷ xs) zero d h = refl
at_element-get p (x ∷ xs) (suc n) d h = at_element-get p xs n d (omega arith)

-- an operation on each element that both rows have
module _ {X : Type 0} (f : Bool → Bool → Bool) (c : ℕ) (big : X → PlainSet) (xs ys zs : List X)
    (owned : (x : X) → (big x).capacity ≡ c) where
  abbrev has : X → ℕ → Bool
  has x = (big x).has

  abbrev before : PlainSet
  before = row_set (length xs) c big xs

  abbrev other : PlainSet
  other = row_set (length ys) c big ys

  read : (n : ℕ) (us : List X) (q r : ℕ) (d : X) → n ≤ length us → q < n → r < c →
      row_has n c has us (q * c + r) ≡ has (get_or us q d) r
  read n us q r d le a b = elements_has_at n c has us q r a b ∙ at_element-get (λ x. has x r) us q d
      (omega arith)

  inside : (n q r : ℕ) → q < n → r < c → q * c + r < n * c
  inside n q r a b = let t = mul-add-lt q c r n a b in omega arith

  beyond : (n q r : ℕ) → n ≤ q → n * c ≤ q * c + r
  beyond n q r g = omega (arith, mul-le-mul_right c g)

  module _ (same : length zs ≡ length xs) (each : (k : ℕ) (d : X) → k < length xs → k < length ys →
      big (get_or zs k d) ≡ combination_of f (big (get_or xs k d)) (big (get_or ys k d)))
      (later : (k : ℕ) (d : X) → length ys ≤ k → get_or zs k d ≡ get_or xs k d) where
    abbrev after : ℕ → Bool
    after = row_has (length xs) c has zs

    decided : (q r : ℕ) (d : X) → q < length xs → q < length ys → r < c →
        has (get_or zs q d) r ≡ combination_has f before other (q * c + r)
    decided q r d a l b =
        ap (λ s. s.has r) (each q d a l)
        ∙ combination-below f (big (get_or xs q d)) (big (get_or ys q d)) r
        (omega (arith, owned (get_or xs q d))) (omega (arith, owned (get_or ys q d)))
        ∙ sym (combination-below f before other (q * c + r) (inside (length xs) q r a b)
        (inside (length ys) q r l b)
        ∙ ap (λ t. f t (row_has (length ys) c has ys (q * c + r)))
        (read (length xs) xs q r d (omega arith) a b)
        ∙ ap (f (has (get_or xs q d) r)) (read (length ys) ys q r d (omega arith) l b))

    stays : (q r : ℕ) (d : X) → q < length xs → length ys ≤ q → r < c →
        has (get_or zs q d) r ≡ combination_has f before other (q * c + r)
    stays q r d a g b =
        ap (λ x. has x r) (later q d g)
        ∙ sym (combination-past f before other (q * c + r) (beyond (length ys) q r g)
        ∙ read (length xs) xs q r d (omega arith) a b)

    placed : (q r : ℕ) (d : X) → q < length xs → r < c →
        after (q * c + r) ≡ combination_has f before other (q * c + r)
    placed q r d a b =
        read (length xs) zs q r d (omega arith) a b ∙
        elim (cases_lt q (length ys)) [ inl l ↦ decided q r d a l b | inr g ↦ stays q r d a g b ]

    -- if the common elements are combined and the later ones stay, the row is the combined row
    pub row_combined : row_set (length zs) c big zs ≡ combination_of f before other
    row_combined = rw same (ap (plain_set (length xs * c)) (fun_ext λ k.
        elim (cases_lt k (length xs * c)) [
          | inl l ↦ by_place (length xs) c (λ k. after k ≡ combination_has f before other k)
              (λ q r a b. placed q r (some_of xs q a) a b) k l
          | inr g ↦ row_has-past (length xs) c has zs k g
              ∙ sym (combination-outside f before other k g
              ∙ row_has-past (length xs) c has xs k g)
        ]))

-- One more element of a row. The row xs became zs: its elements below i are combined with those of
-- ys. The element at i becomes z, which is combined with its counterpart y.
pub one_more_combined : {X : Type 0} (f : Bool → Bool → Bool) (big : X → PlainSet)
    (xs ys zs : List X) (i : ℕ) (x y z : X) → i < length zs → i < length ys → get_or ys i y ≡ y →
    big z ≡ combination_of f (big (get_or zs i x)) (big y) → IsCombinedBelow f big xs ys zs i →
    IsCombinedBelow f big xs ys (set zs i z) (i + 1)
one_more_combined f big xs ys zs i x y z within also beside is old = record {
  same = length-set zs i z ∙ old.same;
  done = λ k d h. elim (cases_eq k i) [
    | inl e ↦
        let first : get_or zs i x ≡ get_or xs i d = get_or_default zs i x d within
        ∙ old.rest i d (omega arith) in
        let second : y ≡ get_or ys i d = sym beside ∙ get_or_default ys i y d also in
        rw e (ap big (get_or-set_same zs i z d within) ∙ is
        ∙ ap (λ u. combination_of f (big u) (big y)) first
        ∙ ap (λ u. combination_of f (big (get_or xs i d)) (big u)) second)
    | inr n ↦ ap big (get_or-set_other zs i k z d n) ∙ old.done k d (omega arith)
  ];
  rest = λ k d h. get_or-set_other zs i k z d (λ e. omega arith) ∙ old.rest k d (omega arith);
}
