-- Rows of elements after a change of each index of a span.
use Rattle.std.proofs.Common.{◌≡◌, ℕ, ◌+◌, ◌*◌, ◌<◌, ◌≤◌, ◌≢◌, ◌⊎◌, Bool, inl, inr, sym, ap, ◌∙◌}
use Rattle.std.proofs.Common.{arith, List, length, get_or, set}
use Rattle.std.proofs.Math.Path.{fun_ext}
use Rattle.std.proofs.Math.Nat.{mul-le-mul_right}
use Rattle.std.proofs.lemmas.Nat.{mul-add-lt}
use Rattle.std.proofs.lemmas.Bool.{cases_eq, cases_lt}
use Rattle.bittle_bits.specs.RowLawProofs.{row_has-past}
use Rattle.bittle_bits.specs.Orders.{place, read_in}
use Rattle.bittle_bits.specs.PlainSet.{PlainSet, with_span_changed}
use Rattle.bittle_bits.specs.Rows.{row_has, row_set}
use Rattle.bittle_bits.proofs.PlainSets.{plain_set}
use Rattle.bittle_bits.proofs.RowSets.{at_element-read, at_element-set_same, at_element-set_other}
use Rattle.bittle_bits.proofs.RowSets.{elements_has_at, elements_placed, by_place}
use Rattle.bittle_bits.proofs.Spans.{outside_span, inside_span}

-- a row after a change of a span within one element
module _ {X : Type 0} (change : Bool → Bool) (m : Bool) (w c n q : ℕ) (big : X → PlainSet)
    (xs : List X) (x y : X)
    (word : 0 < w) (whole : (d : ℕ) × (c ≡ d * w)) (le : q < n) (all : n ≡ length xs)
    (at : x ≡ get_or xs q x) where
  -- the test of an element in the order
  abbrev test : X → ℕ → Bool
  test y k = (big y).has (place m w k)

  abbrev row : List X → PlainSet
  row ys = read_in m w (row_set n c big ys)

  placed : (ys : List X) → (row ys).has ≡ row_has n c test ys
  placed ys = elements_placed m w whole.0 c n word whole.1 (λ x. (big x).has) ys

  -- the row after a change of the span that lies in the element
  abbrev spanned : ℕ → ℕ → PlainSet
  spanned from end = with_span_changed change (row xs) (q * c + from) (q * c + end)

  -- an index of the element
  here : (from end t : ℕ) → read_in m w (big y)
      ≡ with_span_changed change (read_in m w (big x)) from end → t < c →
      row_has n c test (set xs q y) (q * c + t) ≡ (spanned from end).has (q * c + t)
  here from end t is b =
      elements_has_at n c test (set xs q y) q t le b ∙ at_element-set_same (λ x. test x t) xs q y
      (omega arith) ∙ ap (λ s. s.has t) is
      ∙ elim (cases_lt t from) [
        | inl l ↦ outside_span change (read_in m w (big x)) from end t (inl l) ∙ old
            ∙ sym (outside_span change (row xs) (q * c + from) (q * c + end) (q * c + t)
            (inl (omega arith)))
        | inr g ↦ elim (cases_lt t end) [
          | inl l ↦ inside_span change (read_in m w (big x)) from end t g l ∙ ap change old
              ∙ sym (inside_span change (row xs) (q * c + from) (q * c + end)
              (q * c + t) (omega arith)
              (omega arith))
          | inr e ↦ outside_span change (read_in m w (big x)) from end t (inr e) ∙ old
              ∙ sym (outside_span change (row xs) (q * c + from) (q * c + end) (q * c + t)
              (inr (omega arith)))
        ]
      ]
    where
      old : test x t ≡ (row xs).has (q * c + t)
      old = sym (ap (λ p. p (q * c + t)) (placed xs) ∙ elements_has_at n c test xs q t le b
          ∙ at_element-read (λ x. test x t) xs q x (omega arith) at)

  -- an index of any other element
  elsewhere : (from end p t : ℕ) → end ≤ c → p ≢ q → p < n → t < c →
      row_has n c test (set xs q y) (p * c + t) ≡ (spanned from end).has (p * c + t)
  elsewhere from end p t h other a b =
      elements_has_at n c test (set xs q y) p t a b
      ∙ at_element-set_other (λ x. test x t) xs q p y other
      ∙ sym (outside_span change (row xs) (q * c + from) (q * c + end) (p * c + t) apart
      ∙ ap (λ f. f (p * c + t)) (placed xs) ∙ elements_has_at n c test xs p t a b)
    where
      apart : (p * c + t < q * c + from) ⊎ (q * c + end ≤ p * c + t)
      apart = elim (cases_lt p q) [
        | inl l ↦ let z = mul-add-lt p c t q l b in inl (omega arith)
        | inr g ↦ let z : (q + 1) * c ≤ p * c = mul-le-mul_right c (omega arith) in
            inr (omega arith)
      ]

  -- if the element is changed by a span, the row is changed by that span
  pub row_changed : (from end : ℕ) → end ≤ c →
      read_in m w (big y) ≡ with_span_changed change (read_in m w (big x)) from end →
      row (set xs q y) ≡ spanned from end
  row_changed from end h is =
      ap (plain_set (n * c)) (placed (set xs q y) ∙ fun_ext λ k.
      elim (cases_lt k (n * c)) [
        | inl l ↦ by_place n c (λ k. row_has n c test (set xs q y) k
            ≡ (spanned from end).has k) (λ p t a b. elim (cases_eq p q) [
              | inl same ↦ rw same (here from end t is b)
              | inr other ↦ elsewhere from end p t h other a b
            ]) k l
        | inr g ↦
            let z : (q + 1) * c ≤ n * c = mul-le-mul_right c (omega arith) in
            row_has-past n c test (set xs q y) k g
            ∙ sym (outside_span change (row xs) (q * c + from) (q * c + end) k (inr (omega arith))
            ∙ ap (λ f. f k) (placed xs) ∙ row_has-past n c test xs k g)
      ])

-- if a row has an index, its elements do not have capacity 0
pub some_each : (to n c : ℕ) → 0 < to → to ≤ n * c → 0 < c
some_each to n c h l = elim (cases_eq c 0)
    [ inl z ↦ absurd (let t : to ≤ n * 0 = rw z at l in omega arith) | inr s ↦ omega arith ]
