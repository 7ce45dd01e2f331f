-- The set of a row of elements.
use Rattle.std.proofs.Common.{◌≡◌, ◌≢◌, ℕ, zero, suc, ◌+◌, ◌*◌, ◌/◌, ◌%◌, ◌<◌, ◌≤◌, Bool, true}
use Rattle.std.proofs.Common.{false, ◌&&◌, nat_lt, inl, inr, refl, sym, ap, ◌∙◌, arith, List, []}
use Rattle.std.proofs.Common.{◌∷◌, length, get_or, set, replicate}
use Rattle.std.proofs.Math.Path.{fun_ext}
use Rattle.std.proofs.Math.Nat.{div-add-mod', mul_assoc}
use Rattle.std.proofs.lemmas.Nat.{mod-mul-add, div-mul-add, mod_below, div_below, mul-add-lt}
use Rattle.std.proofs.lemmas.List.{get_or-replicate, length-replicate}
use Rattle.std.proofs.lemmas.Bool.{cases_eq, cases_lt, lt-ltb, le-ltb, and_right}
use Rattle.bittle_bits.specs.RowLawProofs.{row_has-past}
use Rattle.bittle_bits.specs.Orders.{place}
use Rattle.bittle_bits.specs.PlainSet.{PlainSet, empty_set, without_members, full_set}
use Rattle.bittle_bits.specs.Rows.{at_element, row_has, row_set}
use Rattle.bittle_bits.proofs.PlaceLemmas.{place_part, place_below, place_past}
use Rattle.bittle_bits.proofs.PlainSets.{plain_set}

-- the test at a place of the row is the test of the element read there
pub at_element-read : {X : Type 0} (p : X → Bool) (xs : List X) (n : ℕ) (x : X) → n < length xs →
    x ≡ get_or xs n x → at_element p xs n ≡ p x
unfolding at_element
at_element-read p [] n x h e = absurd (omega arith)
at_element-read p (y ∷ xs) zero x h e = ap p (sym e)
at_element-read p (y ∷ xs) (suc n) x h e = at_element-read p xs n x (omega arith) e

-- the test at the place of a write is the test of the written element
pub at_element-set_same : {X : Type 0} (p : X → Bool) (xs : List X) (n : ℕ) (y : X) →
    n < length xs → at_element p (set xs n y) n ≡ p y
unfolding at_element
at_element-set_same p [] n y h = absurd (omega arith)
at_element-set_same p (x ∷ xs) zero y h = refl
at_element-set_same p (x ∷ xs) (suc n) y h = at_element-set_same p xs n y (omega arith)

-- the test at any other place stays as it was before a write
pub at_element-set_other : {X : Type 0} (p : X → Bool) (xs : List X) (n k : ℕ) (y : X) → k ≢ n →
    at_element p (set xs n y) k ≡ at_element p xs k
unfolding at_element
at_element-set_other p [] n k y h = refl
at_element-set_other p (x ∷ xs) zero zero y h = absurd (h refl)
at_element-set_other p (x ∷ xs) zero (suc k) y h = refl
at_element-set_other p (x ∷ xs) (suc n) zero y h = refl
at_element-set_other p (x ∷ xs) (suc n) (suc k) y h = at_element-set_other p xs n k y
    (λ e. h (ap suc e))

-- an index of the row is a member exactly if the index in its element is a member
pub elements_has_at : {X : Type 0} (n c : ℕ) (f : X → ℕ → Bool) (xs : List X) (q r : ℕ) → q < n →
    r < c → row_has n c f xs (q * c + r) ≡ at_element (λ x. f x r) xs q
unfolding row_has
elements_has_at n c f xs q r h l =
    let b = mul-add-lt q c r n h l in
    let t : nat_lt (q * c + r) (n * c) ≡ true = lt-ltb (q * c + r) (n * c) (omega arith) in
    rw (t, mod-mul-add q c r l, div-mul-add q c r l)

-- a property holds of each number below the capacity if it holds of each index of each element
pub by_place : (n c : ℕ) (P : ℕ → Type 0) → ((q r : ℕ) → q < n → r < c → P (q * c + r)) → (k : ℕ) →
    k < n * c → P k
by_place n c P f k h =
    let e = div-add-mod' k c in
    let pos : 0 < c = elim (cases_eq c 0)
    [ inl z ↦ absurd (let t : k < n * 0 = rw z at h in omega arith) | inr s ↦ omega arith ] in
    rw e at (f (k / c) (k % c) (div_below k c n pos h) (mod_below k c pos))

module _ (m : Bool) (w d c n : ℕ) (word : 0 < w) (whole : c ≡ d * w) where
  place_at : (q r : ℕ) → r < c → place m w (q * c + r) ≡ q * c + place m w r
  place_at q r h = let b : r < d * w = omega arith in rw whole (place_part m w d q r word b)

  place_within : (r : ℕ) → r < c → place m w r < c
  place_within r h = let b : r < d * w = omega arith in rw whole (place_below m w d r word b)

  row_past : (k : ℕ) → n * c ≤ k → n * c ≤ place m w k
  row_past k h =
      let e : n * c ≡ n * d * w = ap (λ t. n * t) whole ∙ sym (mul_assoc n d w) in
      let b : n * d * w ≤ k = omega arith in
      omega (arith, place_past m w (n * d) k word b)

  -- the members of a row in an order are those of its elements in that order
  pub elements_placed : {X : Type 0} (f : X → ℕ → Bool) (xs : List X) →
      (λ k. row_has n c f xs (place m w k)) ≡ row_has n c (λ x k. f x (place m w k)) xs
  elements_placed f xs = fun_ext λ k.
      elim (cases_lt k (n * c)) [
        | inl l ↦ by_place n c (λ t. row_has n c f xs (place m w t)
            ≡ row_has n c (λ x k. f x (place m w k)) xs t)
            (λ q r a b. rw (place_at q r b)
            (elements_has_at n c f xs q (place m w r) a (place_within r b)
            ∙ sym (elements_has_at n c (λ x k. f x (place m w k)) xs q r a b))) k l
        | inr g ↦ row_has-past n c f xs (place m w k) (row_past k g)
            ∙ sym (row_has-past n c (λ x k. f x (place m w k)) xs k g)
      ]

at_element-none : {X : Type 0} (p : X → Bool) (xs : List X) (n : ℕ) →
    ((k : ℕ) (d : X) → k < length xs → p (get_or xs k d) ≡ false) → at_element p xs n ≡ false
unfolding at_element
at_element-none p [] n h = refl
at_element-none p (x ∷ xs) zero h = h 0 x (omega arith)
at_element-none p (x ∷ xs) (suc n) h = at_element-none p xs n (λ k d l. h (suc k) d (omega arith))

row_has-none : {X : Type 0} (n c : ℕ) (f : X → ℕ → Bool) (xs : List X) →
    ((k : ℕ) (d : X) → k < length xs → f (get_or xs k d) ≡ (λ _. false)) →
    row_has n c f xs ≡ (λ _. false)
unfolding row_has
row_has-none n c f xs h = fun_ext λ i.
    ap (λ t. nat_lt i (n * c) && t) (at_element-none (λ x. f x (i % c)) xs (i / c)
    (λ k d l. ap (λ s. s (i % c)) (h k d l))) ∙ and_right (nat_lt i (n * c)) false refl

-- a row is the cleared row if its elements have no members
pub elements_without_members : {X : Type 0} (n old c : ℕ) (big : X → PlainSet) (xs ys : List X) →
    n ≡ old → ((k : ℕ) (d : X) → k < length xs → (big (get_or xs k d)).has ≡ (λ _. false)) →
    row_set n c big xs ≡ without_members (row_set old c big ys)
elements_without_members n old c big xs ys e h = rw e
    (ap (plain_set (old * c)) (row_has-none old c (λ x. (big x).has) xs h))

-- a row of empty elements is empty
pub row_set-replicate : {X : Type 0} (n c : ℕ) (big : X → PlainSet) (x : X) →
    big x ≡ empty_set c → row_set n c big (replicate n x) ≡ empty_set (n * c)
row_set-replicate n c big x e = ap (plain_set (n * c))
    (row_has-none n c (λ x. (big x).has) (replicate n x)
    (λ k d l. ap (λ y. (big y).has) (get_or-replicate n k x d (let y = length-replicate n x in
    omega arith)) ∙ ap (λ s. s.has) e))

-- a row of full elements is full
pub row_set-full : {X : Type 0} (n c : ℕ) (big : X → PlainSet) (x : X) → big x ≡ full_set c →
    row_set n c big (replicate n x) ≡ full_set (n * c)
row_set-full n c big x e =
    ap (plain_set (n * c)) (fun_ext λ k.
    elim (cases_lt k (n * c)) [
      | inl l ↦ by_place n c (λ k. row_has n c (λ x. (big x).has) (replicate n x) k
          ≡ nat_lt k (n * c)) (λ q r a b.
          elements_has_at n c (λ x. (big x).has) (replicate n x) q r a b
          ∙ at_element-read (λ x. (big x).has r) (replicate n x) q x
          (let y = length-replicate n x in omega arith)
          (sym (get_or-replicate n q x x (let y = length-replicate n x in omega arith)))
          ∙ ap (λ s. s.has r) e ∙ lt-ltb r c b
          ∙ sym (lt-ltb (q * c + r) (n * c) (let t = mul-add-lt q c r n a b in omega arith))) k
          l
      | inr g ↦ row_has-past n c (λ x. (big x).has) (replicate n x) k g
          ∙ sym (le-ltb k (n * c) g)
    ])
