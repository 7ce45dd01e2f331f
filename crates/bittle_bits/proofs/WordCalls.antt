-- The calls on one index of a word, by a mask whose only member is that index.
use Rattle.std.proofs.Common.{◌≡◌, ℕ, ◌-◌, ◌%◌, ◌^◌, ◌<◌, Bool, true, not, ◌&&◌, ◌||◌, ◌==◌, nat_lt}
use Rattle.std.proofs.Common.{◌⊎◌, inl, inr, refl, sym, ap, ◌∙◌, arith, bit_and, bit_or}
use Rattle.std.proofs.Math.Bool.{and-true, or-false, or_comm}
use Rattle.std.proofs.Math.Path.{fun_ext}
use Rattle.std.proofs.Math.Nat.{mod-eq_of_lt}
use Rattle.std.proofs.lemmas.Nat.{mod_below}
use Rattle.std.proofs.lemmas.Bool.{cases_eq, eq-eqb, ne_eqb, eqb-true, and_parts}
use Rattle.bittle_bits.specs.BitPatterns.{bit_has, bit_set}
use Rattle.bittle_bits.specs.Orders.{place, read_in}
use Rattle.bittle_bits.specs.PlainSet.{contains, with_index, without_index, empty_set, lacks}
use Rattle.bittle_bits.proofs.BitSets.{bit_has-and, bit_has-or, bit_has-not, bit_has-pow}
use Rattle.bittle_bits.proofs.BitSets.{bit_has-zero, some_digit}
use Rattle.bittle_bits.proofs.PlaceLemmas.{place_eq, place_in_word, place-place, mirror_in_word}
use Rattle.bittle_bits.proofs.PlainSets.{plain_set, contains_in, has_with-in, with_in, without_in}

-- the mask has one set bit, at the place of the index
pub mask_set : (m : Bool) (w i d : ℕ) → 0 < w → d ≡ 2 ^ place m w (i % w) →
    read_in m w (bit_set w d) ≡ with_index (empty_set w) i
mask_set m w i d h is =
    rw is (ap (plain_set w) (ap (λ p k. p (place m w k))
    (bit_has-pow w (place m w (i % w)) (place_in_word m w (i % w) (mod_below i w h)))
    ∙ fun_ext λ k. place_eq m w k (i % w) h ∙ sym (or-false (k == i % w)))
    ∙ sym (with_in (empty_set w) w i refl h))

-- in little-endian order the mask's bit is at the mirrored place of the index
pub mirrored_mask : (w i d : ℕ) → 0 < w → d ≡ 2 ^ (w - 1 - i % w) →
    read_in true w (bit_set w d) ≡ with_index (empty_set w) i
mirrored_mask w i d h is = mask_set true w i d h
    (is ∙ ap (λ p. 2 ^ p) (sym (mirror_in_word w (i % w) (mod_below i w h))))

module _ (m : Bool) (w d e i : ℕ) (h : 0 < w)
    (one : read_in m w (bit_set w e) ≡ with_index (empty_set w) i) where
  -- the only member of the mask
  mask_has : ◌≡◌ {A = ℕ → Bool} (λ k. bit_has w e (place m w k)) (λ k. k == i % w)
  mask_has = ap (λ s. s.has) one ∙ has_with-in (empty_set w) w i refl h
      ∙ fun_ext λ k. or-false (k == i % w)

  -- the mask has a bit set at the place of the index, and at no other
  pub at_mask : (k : ℕ) → bit_has w e (place m w k) ≡ (k == i % w)
  at_mask k = ap (λ p. p k) mask_has

  -- the or with the mask sets the index
  pub word_set : read_in m w (bit_set w (bit_or d e)) ≡ with_index (read_in m w (bit_set w d)) i
  word_set =
      ap (plain_set w) (ap (λ p k. p (place m w k)) (bit_has-or w d e)
      ∙ fun_ext λ k. ap (λ b. bit_has w d (place m w k) || b) (at_mask k)
      ∙ or_comm (bit_has w d (place m w k)) (k == i % w))
      ∙ sym (with_in (read_in m w (bit_set w d)) w i refl h)

  outside : (t x u : Bool) → (t && x) && (t && not u) ≡ not u && (t && x)
  outside t x u = grind arith

  -- the and with the inverted mask clears the index
  pub word_cleared : (mask : ℕ) → e < 2 ^ w → mask ≡ 2 ^ w - 1 - e →
      read_in m w (bit_set w (bit_and d mask)) ≡ without_index (read_in m w (bit_set w d)) i
  unfolding bit_has lacks
  word_cleared mask fits is =
      rw is (ap (plain_set w) (ap (λ p k. p (place m w k)) (bit_has-and w d (2 ^ w - 1 - e))
      ∙ fun_ext λ k. ap (λ p. bit_has w d (place m w k) && p (place m w k))
      (bit_has-not w e fits) ∙ ap (λ b. bit_has w d (place m w k)
      && (nat_lt (place m w k) w && not b)) (at_mask k) ∙ outside (nat_lt (place m w k) w) _
      (k == i % w))
      ∙ sym (without_in (read_in m w (bit_set w d)) w i refl h))

  -- the bits that the word and the mask share
  shared : (k : ℕ) → bit_has w (bit_and d e) (place m w k) ≡ bit_has w d (place m w k)
      && (k == i % w)
  shared k = ap (λ p. p (place m w k)) (bit_has-and w d e)
      ∙ ap (λ b. bit_has w d (place m w k) && b) (at_mask k)

  here : bit_has w (bit_and d e) (place m w (i % w)) ≡ bit_has w d (place m w (i % w))
  here = shared (i % w) ∙ ap (λ b. bit_has w d (place m w (i % w)) && b)
      (eq-eqb (i % w) (i % w) refl) ∙ and-true _

  -- the and with the mask is not 0 exactly if the index is a member
  pub word_tested : bit_and d e < 2 ^ w →
      not (bit_and d e == 0) ≡ contains (read_in m w (bit_set w d)) i
  word_tested fits = by (cases_eq (bit_and d e) 0)
      ∙ sym (contains_in (read_in m w (bit_set w d)) w i refl h)
    where
      found : (k : ℕ) → bit_has w (bit_and d e) k ≡ true →
          true ≡ bit_has w d (place m w (i % w))
      found k t =
          let j = place m w k in
          let back : place m w j ≡ k = place-place m w k h in
          let both = and_parts (bit_has w d (place m w j)) (j == i % w)
          (sym (shared j) ∙ ap (bit_has w (bit_and d e)) back ∙ t) in
          let same : j ≡ i % w = eqb-true j (i % w) both.1 in
          sym (ap (λ n. bit_has w d (place m w n)) (sym same) ∙ both.0)

      by : (bit_and d e ≡ 0) ⊎ (bit_and d e ≡ 0 → ⊥) →
          not (bit_and d e == 0) ≡ bit_has w d (place m w (i % w))
      by (inl z) = ap not (eq-eqb _ _ z)
          ∙ sym (sym here ∙ ap (λ p. p (place m w (i % w))) (bit_has-zero w (bit_and d e) z))
      by (inr n) = let t = some_digit w (bit_and d e) fits n in
          ap not (ne_eqb _ _ n) ∙ found t.0 t.1

-- the and with the inverted mask of a place clears the index of that place
pub place_cleared : (m : Bool) (w d e mask p : ℕ) → p < w → e ≡ 2 ^ p → e < 2 ^ w →
    mask ≡ 2 ^ w - 1 - e → read_in m w (bit_set w (bit_and d mask))
    ≡ without_index (read_in m w (bit_set w d)) (place m w p)
place_cleared m w d e mask p h one fits inverted =
    let back : place m w (place m w p % w) ≡ p = ap (place m w)
    (mod-eq_of_lt (place_in_word m w p h)) ∙ place-place m w p (omega arith) in
    let at = mask_set m w (place m w p) e (omega arith) (one ∙ ap (λ k. 2 ^ k) (sym back)) in
    word_cleared m w d e (place m w p) (omega arith) at mask fits inverted
