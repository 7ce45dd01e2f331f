-- Sets after a change of each index of a span, and words of spans.
use Rattle.std.proofs.Common.{◌≡◌, ℕ, ◌+◌, ◌-◌, ◌%◌, ◌^◌, ◌<◌, ◌≤◌, ◌⊎◌, Bool, true, false, not}
use Rattle.std.proofs.Common.{◌&&◌, ◌||◌, ◌==◌, nat_lt, nat_le, inl, inr, refl, sym, ap, ◌∙◌, arith}
use Rattle.std.proofs.Common.{bit_and}
use Rattle.std.proofs.Math.Bool.{and-true}
use Rattle.std.proofs.Math.Path.{fun_ext}
use Rattle.std.proofs.lemmas.Bool.{cases_eq, cases_lt, eq-eqb, ne_eqb, lt-ltb, le-ltb, le-leb}
use Rattle.std.proofs.lemmas.Bool.{lt-leb, and_right}
use Rattle.bittle_bits.specs.BitPatterns.{bit_set}
use Rattle.bittle_bits.specs.Orders.{read_in}
use Rattle.bittle_bits.specs.PlainSet.{PlainSet, with_index, is_in_span, span_set, has_changed}
use Rattle.bittle_bits.specs.PlainSet.{with_span_changed, with_span, empty_set, full_set_from}
use Rattle.bittle_bits.specs.SetOperations.{combination_of, first_alone}
use Rattle.bittle_bits.proofs.SetOperations.{combination-below, combination-outside}
use Rattle.bittle_bits.proofs.WordOperations.{digits_first_alone, word_combined}
use Rattle.bittle_bits.proofs.PlainSets.{plain_set, with_in}

-- a number outside a span is not in it
pub is_in_span-outside : (from end k : ℕ) → (k < from) ⊎ (end ≤ k) → is_in_span from end k ≡ false
is_in_span-outside from end k (inl l) = rw (lt-leb from k l) refl
is_in_span-outside from end k (inr g) = rw (le-ltb k end g) (and_right (nat_le from k) false refl)

-- a number of a span is in it
pub is_in_span-inside : (from end k : ℕ) → from ≤ k → k < end → is_in_span from end k ≡ true
is_in_span-inside from end k g l = rw (le-leb from k g, lt-ltb k end l) refl

-- a span with no index is the empty set
pub span-none : (c from end : ℕ) → end ≤ from → span_set c from end ≡ empty_set c
span-none c from end h =
    ap (plain_set c) (fun_ext λ k. elim (cases_lt k from) [
      | inl l ↦ is_in_span-outside from end k (inl l)
      | inr g ↦ is_in_span-outside from end k (inr (omega arith))
    ])

-- changes that do the same to members, and the same to other numbers, are equal
pub change-same : (f g : Bool → Bool) → f true ≡ g true → f false ≡ g false →
    (s : PlainSet) (from end : ℕ) → with_span_changed f s from end ≡ with_span_changed g s from end
change-same f g at_true at_false s from end =
    ap (λ h. with_span_changed h s from end)
    (fun_ext λ b. elim b as (λ b. f b ≡ g b) [ true ↦ at_true | false ↦ at_false ])

module _ (change : Bool → Bool) (s : PlainSet) where
  -- a number outside the span is a member exactly if it was one
  pub outside_span : (from end k : ℕ) → (k < from) ⊎ (end ≤ k) →
      has_changed change s from end k ≡ s.has k
  unfolding has_changed
  outside_span from end k h = rw (is_in_span-outside from end k h) refl

  -- a number of the span is changed
  pub inside_span : (from end k : ℕ) → from ≤ k → k < end →
      has_changed change s from end k ≡ change (s.has k)
  unfolding has_changed
  inside_span from end k g l = rw (is_in_span-inside from end k g l) refl

  -- a span with no index changes nothing
  pub changed-none : (from end : ℕ) → end ≤ from → with_span_changed change s from end ≡ s
  changed-none from end h =
      ap (plain_set s.capacity) (fun_ext λ k. elim (cases_lt k from) [
        | inl l ↦ outside_span from end k (inl l)
        | inr g ↦ outside_span from end k (inr (omega arith))
      ])

-- two spans are one span if the second begins where the first ends
pub changed-on : (change : Bool → Bool) (s : PlainSet) (from mid end : ℕ) → from ≤ mid →
    mid ≤ end → with_span_changed change (with_span_changed change s from mid) mid end
    ≡ with_span_changed change s from end
changed-on change s from mid end h l =
    let first = with_span_changed change s from mid in
    ap (plain_set s.capacity) (fun_ext λ k. elim (cases_lt k mid) [
      | inl b ↦ outside_span change first mid end k (inl b) ∙ elim (cases_lt k from) [
        | inl c ↦ outside_span change s from mid k (inl c)
            ∙ sym (outside_span change s from end k (inl c))
        | inr c ↦ inside_span change s from mid k c b
            ∙ sym (inside_span change s from end k c (omega arith))
      ]
      | inr b ↦ elim (cases_lt k end) [
        | inl c ↦ inside_span change first mid end k b c
            ∙ ap change (outside_span change s from mid k (inr b))
            ∙ sym (inside_span change s from end k (omega arith) c)
        | inr c ↦ outside_span change first mid end k (inr c)
            ∙ outside_span change s from mid k (inr b)
            ∙ sym (outside_span change s from end k (inr c))
      ]
    ])

-- an operation with the set of a span changes the span, if it leaves the numbers that the second
-- set lacks as they were
pub combined_with_span : (f : Bool → Bool → Bool) → ((b : Bool) → f b false ≡ b) →
    (s : PlainSet) (from end : ℕ) → end ≤ s.capacity →
    combination_of f s (span_set s.capacity from end)
    ≡ with_span_changed (λ b. f b true) s from end
combined_with_span f keeps s from end h =
    let c = s.capacity in
    let t = span_set c from end in
    let change : Bool → Bool = λ b. f b true in
    let untouched : (k : ℕ) → (k < from) ⊎ (end ≤ k) → f (s.has k) (is_in_span from end k)
    ≡ has_changed change s from end k = λ k o. ap (f (s.has k)) (is_in_span-outside from end k o)
    ∙ keeps (s.has k) ∙ sym (outside_span change s from end k o) in
    ap (plain_set c) (fun_ext λ k. elim (cases_lt k c) [
      | inl b ↦ combination-below f s t k b b ∙ elim (cases_lt k from) [
        | inl l ↦ untouched k (inl l)
        | inr g ↦ elim (cases_lt k end) [
          | inl l ↦ ap (f (s.has k)) (is_in_span-inside from end k g l)
              ∙ sym (inside_span change s from end k g l)
          | inr e ↦ untouched k (inr e)
        ]
      ]
      | inr g ↦ combination-outside f s t k g
          ∙ sym (outside_span change s from end k (inr (omega arith)))
    ])

-- if i wraps to the end of a span, the span with i is the span with one more index
pub with_span-more : (s : PlainSet) (from end i : ℕ) → 0 < s.capacity → i % s.capacity ≡ end →
    from ≤ end → with_index (with_span s from end) i ≡ with_span s from (end + 1)
with_span-more s from end i some at h =
    let all : Bool → Bool = λ _. true in
    with_in (with_span s from end) s.capacity i refl some
    ∙ ap (plain_set s.capacity) (fun_ext λ k.
    ap (λ t. (k == t) || has_changed all s from end k) at
    ∙ elim (cases_eq k end) [
      | inl e ↦ rw (eq-eqb k end e) (sym
          (inside_span all s from (end + 1) k (omega arith) (omega arith)))
      | inr n ↦ rw (ne_eqb k end n) (elim (cases_lt k end) [
        | inl l ↦ elim (cases_lt k from) [
          | inl b ↦ outside_span all s from end k (inl b)
              ∙ sym (outside_span all s from (end + 1) k (inl b))
          | inr b ↦ inside_span all s from end k b l
              ∙ sym (inside_span all s from (end + 1) k b (omega arith))
        ]
        | inr g ↦ outside_span all s from end k (inr g)
            ∙ sym (outside_span all s from (end + 1) k (inr (omega arith)))
      ])
    ])

-- spans of one word
module _ (m : Bool) (w : ℕ) (word : 0 < w) where
  -- the word of the indexes from `from` on, without those from `end` on, is the word of the span
  pub span_word : (from end d e f r : ℕ) → from < end → end < w →
      read_in m w (bit_set w d) ≡ full_set_from w from →
      read_in m w (bit_set w e) ≡ full_set_from w end → e < 2 ^ w → f ≡ 2 ^ w - 1 - e →
      r ≡ bit_and d f → read_in m w (bit_set w r) ≡ span_set w from end
  span_word from end d e f r h l first second fits inverted is =
      word_combined first_alone w d e r m word
      (ap (bit_set w) is ∙ digits_first_alone w d e f fits inverted)
      ∙ ap (λ s. combination_of first_alone s (read_in m w (bit_set w e))) first
      ∙ ap (combination_of first_alone (full_set_from w from)) second
      ∙ ap (plain_set w) (fun_ext λ k. elim (cases_lt k w) [
        | inl b ↦ combination-below first_alone (full_set_from w from) (full_set_from w end) k b b
            ∙ by k b
        | inr g ↦ combination-outside first_alone (full_set_from w from) (full_set_from w end) k g
            ∙ rw (le-ltb k w g, le-ltb k end (omega arith))
            (sym (and_right (nat_le from k) false refl))
      ])
    where
      by : (k : ℕ) → k < w → first_alone (nat_lt k w && not (nat_lt k from))
          (nat_lt k w && not (nat_lt k end)) ≡ (nat_le from k && nat_lt k end)
      by k b =
          elim (cases_lt k from) [
            | inl c ↦ rw (lt-ltb k w b, lt-ltb k from c, lt-leb from k c) refl
            | inr c ↦ elim (cases_lt k end) [
              | inl t ↦ rw (lt-ltb k w b, le-ltb k from c, le-leb from k c, lt-ltb k end t) refl
              | inr t ↦ rw (lt-ltb k w b, le-ltb k from c, le-leb from k c, le-ltb k end t) refl
            ]
          ]

  -- the word of the indexes from `from` on is the word of the span up to the width
  pub span_to_width : (from d : ℕ) → read_in m w (bit_set w d) ≡ full_set_from w from →
      read_in m w (bit_set w d) ≡ span_set w from w
  span_to_width from d is =
      is ∙ ap (plain_set w) (fun_ext λ k. elim (cases_lt k from) [
        | inl c ↦ rw (lt-ltb k from c, lt-leb from k c) (and_right (nat_lt k w) false refl)
        | inr c ↦ rw (le-ltb k from c, le-leb from k c) (and-true (nat_lt k w))
      ])

  -- combining a word with the word of a span changes the span
  pub word_changed : (f : Bool → Bool → Bool) → ((b : Bool) → f b false ≡ b) →
      (from end d e r : ℕ) → end ≤ w → read_in m w (bit_set w e) ≡ span_set w from end →
      bit_set w r ≡ combination_of f (bit_set w d) (bit_set w e) →
      read_in m w (bit_set w r)
      ≡ with_span_changed (λ b. f b true) (read_in m w (bit_set w d)) from end
  word_changed f keeps from end d e r h span is =
      let s = read_in m w (bit_set w d) in
      word_combined f w d e r m word is ∙ ap (combination_of f s) span
      ∙ combined_with_span f keeps s from end h
