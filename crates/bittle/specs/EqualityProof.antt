-- Proof of the law of equality that the impl for `Set` states.
use Rattle.std.proofs.Common.{◌≡◌, ℕ, ◌*◌, ◌<◌, ◌≤◌, Bool, false, IsTrue, inl, inr, sym, ap, ◌∙◌}
use Rattle.std.proofs.Common.{subst, arith}
use Rattle.std.proofs.lemmas.Bool.{cases_lt}
use Rattle.std.specs.Cmp.Lexicographic.{same_text}
use Rattle.bittle_bits.proofs.AscendingLists.{ascending_from-agree}
use Rattle.bittle_bits.proofs.PlaceLemmas.{place-place, place_below}
use Rattle.bittle_bits.specs.Orders.{place, read_in}
use Rattle.bittle_bits.specs.PlainSet.{PlainSet, ascending, ascending_from}
use Rattle.bittle.specs.Comparison.{list_eq}

-- two sets with no member at or past their capacity are equal if they have the same capacity, a
-- whole number of words, and the same list of members in one bit order
pub equal_sets : (mirrored : Bool) (w c : ℕ) → 0 < w → (words : ℕ) × (c ≡ words * w) →
    (s t : PlainSet) → s.capacity ≡ c → t.capacity ≡ c →
    ((i : ℕ) → s.capacity ≤ i → s.has i ≡ false) → ((i : ℕ) → t.capacity ≤ i → t.has i ≡ false) →
    IsTrue (list_eq (ascending (read_in mirrored w s)) (ascending (read_in mirrored w t))) → s ≡ t
equal_sets mirrored w c positive whole s t size_s size_t none_s none_t h =
    λ k. record { capacity = (size_s ∙ sym size_t) k; has = λ i. each i k }
  where
    in_order : PlainSet → ℕ → Bool
    in_order u i = u.has (place mirrored w i)

    lists : ascending_from (in_order s) 0 c ≡ ascending_from (in_order t) 0 c
    lists =
        ap (ascending_from (in_order s) 0) (sym size_s)
        ∙ same_text (ascending (read_in mirrored w s)) (ascending (read_in mirrored w t)) (sym h)
        ∙ ap (ascending_from (in_order t) 0) size_t

    each : (i : ℕ) → s.has i ≡ t.has i
    each i =
        elim (cases_lt i c) [
          | inl below ↦
              let back = place-place mirrored w i positive in
              let low = place_below mirrored w whole.0 i positive (subst (λ n. i < n) whole.1 below)
              in
              let there = ascending_from-agree (in_order s) (in_order t) 0 c lists
              (place mirrored w i) (omega arith) (omega (arith, low, whole.1)) in
              ap s.has (sym back) ∙ there ∙ ap t.has back
          | inr past ↦ none_s i (omega (arith, size_s)) ∙ sym (none_t i (omega (arith, size_t)))
        ]
