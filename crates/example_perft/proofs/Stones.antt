-- What a stone that is put on a free square makes of the two sides.
use Rattle.std.proofs.Common.{◌≡◌, ℕ, ◌+◌, ◌%◌, ◌<◌, Bool, true, false, not, cond, ◌&&◌, ◌||◌}
use Rattle.std.proofs.Common.{nat_lt, inl, inr, refl, sym, ap, ◌∙◌, arith}
use Rattle.std.proofs.lemmas.Bool.{cases_eq, lt-ltb, ne_eqb, or_parts}
use Rattle.bittle.specs.PlainSet.{PlainSet, contains, with_index, has_with, size}
use Rattle.bittle.proofs.CallerChanges.{size_inserted}
use Rattle.example_perft.specs.Board.{AreApart, stones}

and_turned : (a b : Bool) → (a && b) ≡ false → (b && a) ≡ false
and_turned true true e = e
and_turned true false e = refl
and_turned false true e = refl
and_turned false false e = refl

-- s is the side that moves, t is the other side, and u is s with its new stone
module _ (s t u : PlainSet) (square : ℕ) (some : 0 < s.capacity) (same : t.capacity ≡ s.capacity)
    (free : (contains s square || contains t square) ≡ false)
    (after : u ≡ with_index s square) where
  pub one_stone_more : stones t u ≡ stones s t + 1
  one_stone_more =
      let none = (or_parts (contains s square) (contains t square) free).0 in
      let more : Bool → ℕ = λ b. cond (not b) 1 0 in
      omega (arith, ap size after, size_inserted s square some, ap more none)

  -- the square itself, by whatever number it is named
  here : (k : ℕ) → k % s.capacity ≡ square % s.capacity → contains t k ≡ false
  unfolding contains
  here k is =
      ap (λ c. nat_lt 0 t.capacity && t.has (k % c)) same
      ∙ ap (λ i. nat_lt 0 t.capacity && t.has i) is
      ∙ ap (λ c. nat_lt 0 t.capacity && t.has (square % c)) (sym same)
      ∙ (or_parts (contains s square) (contains t square) free).1

  -- any other square
  elsewhere : (k : ℕ) → (k % s.capacity ≡ square % s.capacity → ⊥) →
      contains (with_index s square) k ≡ contains s k
  unfolding contains has_with
  elsewhere k apart =
      let is : nat_lt 0 s.capacity ≡ true = lt-ltb 0 s.capacity some in
      let no = ne_eqb (k % s.capacity) (square % s.capacity) apart in
      rw (is, no) refl

  pub still_apart : AreApart s t → AreApart t u
  still_apart before k = elim (cases_eq (k % s.capacity) (square % s.capacity)) [
    | inl is ↦ ap (λ b. b && contains u k) (here k is)
    | inr apart ↦
        ap (λ v. contains t k && contains v k) after
        ∙ ap (λ b. contains t k && b) (elsewhere k apart)
        ∙ and_turned (contains s k) (contains t k) (before k)
  ]
