-- A rotated set has as many members as before.
use Rattle.std.proofs.Common.{◌≡◌, ℕ, ◌+◌, ◌-◌, ◌%◌, ◌≤◌, inl, inr, sym, ap, ◌∙◌, arith}
use Rattle.std.proofs.lemmas.Nat.{mod_below}
use Rattle.std.proofs.lemmas.Bool.{cases_lt}
use Rattle.bittle.specs.PlainSet.{PlainSet, count_below, size}
use Rattle.bittle_bits.proofs.Counts.{count-add, count-none, count-same}
use Rattle.bittle.proofs.CallerSets.{contains_within}
use Rattle.bittle_ext.specs.Rotations.{has_rotated, rotated_down, rotated_up}
use Rattle.bittle_ext.proofs.RotatedSets.{contains_past, rotated-below}
use Rattle.bittle_ext.proofs.RotatedWords.{rotated_wrapped}

-- after a rotation by at most the capacity, the members from `by` on come first, and then those
-- below it
size_moved : (s : PlainSet) (by : ℕ) → by ≤ s.capacity → size (rotated_down s by) ≡ size s
size_moved s by few =
    let rest = s.capacity - by in
    let first : count_below rest (has_rotated s by) ≡ count_below rest (λ k. s.has (by + k)) =
    count-same rest _ _ (λ k l.
    let moved : k + by ≡ by + k = omega arith in
    rotated-below s by k (omega (arith, l)) ∙ contains_within s (k + by) (omega (arith, l))
    ∙ ap s.has moved) in
    let last : count_below by (λ k. has_rotated s by (rest + k)) ≡ count_below by s.has =
    count-same by _ _ (λ k l. rotated-below s by (rest + k) (omega (arith, l, few))
    ∙ contains_past s (rest + k + by) k (omega (arith, few)) (omega (arith, l, few))) in
    let halves : s.capacity ≡ rest + by = omega (arith, few) in
    let others : s.capacity ≡ by + rest = omega (arith, few) in
    omega (
      arith,
      ap (λ c. count_below c (has_rotated s by)) halves,
      count-add rest by (has_rotated s by),
      first,
      last,
      ap (λ c. count_below c s.has) others,
      count-add by rest s.has,
    )

pub size_rotated_down : (s : PlainSet) (by : ℕ) → size (rotated_down s by) ≡ size s
size_rotated_down s by = elim (cases_lt 0 s.capacity) [
  | inl some ↦
      ap size (sym (rotated_wrapped s by))
      ∙ size_moved s (by % s.capacity) (omega (arith, mod_below by s.capacity some))
  | inr none ↦
      let empty : s.capacity ≡ 0 = omega (arith, none) in
      ap (λ c. count_below c (has_rotated s by)) empty ∙ count-none (has_rotated s by)
      ∙ sym (ap (λ c. count_below c s.has) empty ∙ count-none s.has)
]

pub size_rotated_up : (s : PlainSet) (by : ℕ) → size (rotated_up s by) ≡ size s
size_rotated_up s by = size_rotated_down s (s.capacity - by % s.capacity)
