-- The least and the greatest set bit of a word.
use Rattle.std.proofs.Common.{◌≡◌, ℕ, zero, suc, ◌-◌, ◌*◌, ◌/◌, ◌%◌, ◌^◌, ◌<◌, ◌⊎◌, Bool, true}
use Rattle.std.proofs.Common.{false, not, ◌&&◌, ◌==◌, cond, nat_lt, bit_and, inl, inr, refl, sym}
use Rattle.std.proofs.Common.{ap, ◌∙◌, arith, subst}
use mathlib.Core.Bool.{beq}
use Rattle.std.proofs.Math.Nat.{mod-eq_of_lt}
use Rattle.std.proofs.Math.Path.{fun_ext}
use Rattle.std.specs.Int.{bit_at}
use Rattle.std.specs.Int.Count.{count_leading_zeros, count_trailing_zeros, leading_of_zero}
use Rattle.std.proofs.lemmas.Nat.{trailing_le, leading_le, leading_top, mod_below, div-add-mod'}
use Rattle.std.proofs.lemmas.Nat.Bits.{bit_at-suc, bit_at_lowest, bit_at_above, bit_at-lt}
use Rattle.std.proofs.lemmas.Nat.Bits.{bit_at-zero, bit_at-pow_same, bit_at-pow_other}
use Rattle.std.proofs.lemmas.Bool.{cases_eq, cases_lt, and_right, eq-eqb, ne_eqb, true≢false}
use Rattle.std.proofs.Math.Bool.{and_self}
use Rattle.bittle_bits.specs.BitPatterns.{bit_has, bit_set}
use Rattle.bittle_bits.specs.Ends.{with_end, IsEndMember}
use Rattle.bittle_bits.specs.Orders.{mirror, place, read_in}
use Rattle.bittle_bits.specs.PlainSet.{PlainSet, without_index, complement, ascending}
use Rattle.bittle_bits.specs.PlainSet.{IsLeastMember, IsGreatestMember}
use Rattle.bittle_bits.proofs.AscendingLists.{end-none, end-taken}
use Rattle.bittle_bits.proofs.BitSets.{bit_has-at, bit_has-and, bit_has-not, top_digit}
use Rattle.bittle_bits.proofs.PlaceLemmas.{mirror-mirror, mirror_in_word, place_eq}
use Rattle.bittle_bits.proofs.PlainSets.{plain_set, without_in, complement-members}
use Rattle.bittle_bits.proofs.WordCalls.{place_cleared}
use Rattle.bittle_bits.proofs.WordSizes.{none_listed}

-- bit r is the least set bit: it is 1, and the bits below it are 0
record Lowest (k d r : ℕ) : Type 0 where
  below : (i : ℕ) → i < r → bit_at d i ≡ 0
  there : r < k → bit_at d r ≡ 1

lowest : (k d : ℕ) → Lowest k d (count_trailing_zeros k d)
unfolding count_trailing_zeros
lowest zero d = record { below = λ i h. absurd (omega arith); there = λ h. absurd (omega arith) }
lowest (suc k) d = by (lowest k (d / 2)) (cases_eq (d % 2) 0)
  where
    up : Lowest k (d / 2) (count_trailing_zeros k (d / 2)) → (i : ℕ) → d % 2 ≡ 0 →
        i < suc (count_trailing_zeros k (d / 2)) → bit_at d i ≡ 0
    up rest zero z h = bit_at_lowest d ∙ z
    up rest (suc i) z h = bit_at-suc d i ∙ rest.below i (omega arith)

    by : Lowest k (d / 2) (count_trailing_zeros k (d / 2)) → (d % 2 ≡ 0) ⊎ (d % 2 ≡ 0 → ⊥) →
        Lowest (suc k) d (count_trailing_zeros (suc k) d)
    by rest (inl z) = rw z (record {
      below = λ i h. up rest i z h;
      there = λ h. bit_at-suc d (count_trailing_zeros k (d / 2)) ∙ rest.there (omega arith);
    })
    by rest (inr n) =
        let e : d % 2 ≡ 1 = omega (arith, mod_below d 2 (omega arith)) in
        rw e (record { below = λ i h. absurd (omega arith); there = λ h. bit_at_lowest d ∙ e })

-- the trailing zeros of a power of two are its exponent
pub trailing_of_pow : (k n : ℕ) → n < k → count_trailing_zeros k (2 ^ n) ≡ n
trailing_of_pow k n within =
    let r = count_trailing_zeros k (2 ^ n) in
    let at = lowest k (2 ^ n) in
    elim (cases_eq r n) [
      | inl e ↦ e
      | inr other ↦ elim (cases_lt r n) [
        | inl lo ↦ absurd cc (at.there (omega arith), bit_at-pow_other n r other)
        | inr hi ↦ absurd cc (at.below n (omega arith), bit_at-pow_same n)
      ]
    ]

-- the trailing zeros of a word are the index of its least set bit
pub least_digit : (w d : ℕ) → IsLeastMember (bit_set w d) (count_trailing_zeros w d)
least_digit w d =
    let r = count_trailing_zeros w d in
    let low = trailing_le w d in
    let at = lowest w d in record {
      within = low;
      none_below = λ k h. bit_has-at w d k (omega arith) ∙ ap (λ b. b == 1) (at.below k h);
      is_member = λ h. bit_has-at w d r h ∙ eq-eqb (bit_at d r) 1 (at.there h);
    }

-- the leading zeros of a word are how far its greatest set bit lies below its last bit
pub greatest_digit : (w d : ℕ) → d < 2 ^ w →
    IsGreatestMember (bit_set w d) (count_leading_zeros w d)
greatest_digit w d fits = by (cases_eq d 0)
  where
    r : ℕ
    r = count_leading_zeros w d

    by : (d ≡ 0) ⊎ (d ≡ 0 → ⊥) → IsGreatestMember (bit_set w d) (count_leading_zeros w d)
    by (inl z) =
        let all : count_leading_zeros w d ≡ w = ap (count_leading_zeros w) z ∙ leading_of_zero w in
        record {
          within = omega arith;
          none_above = λ k h. bit_has-at w d (w - 1 - k) (omega arith)
              ∙ ap (λ b. b == 1) (ap (λ x. bit_at x (w - 1 - k)) z ∙ bit_at-zero (w - 1 - k));
          is_member = λ h. absurd (omega arith);
        }
    by (inr n) =
        let t = leading_top w d (omega arith) fits in
        let j = t.0 in
        let e : w - 1 - r ≡ j = omega (arith, t.1) in record {
          within = leading_le w d;
          none_above = λ k h. bit_has-at w d (w - 1 - k) (omega (arith, t.1))
              ∙ ap (λ b. b == 1) (bit_at_above d (suc j) (w - 1 - k) t.3 (omega (arith, t.1)));
          is_member = λ h. rw e (bit_has-at w d j (omega (arith, t.1))
              ∙ eq-eqb (bit_at d j) 1 (top_digit j d t.2 t.3));
        }

-- within one word, mirroring exchanges the two ends
module _ (w r : ℕ) (p : ℕ → Bool) where
  -- how far the greatest member lies below the last number is the least member of the mirrored set
  pub mirrored_least : IsGreatestMember (plain_set w p) r →
      IsLeastMember (read_in true w (plain_set w p)) r
  mirrored_least h = record {
    within = h.within;
    none_below = λ k l. let low = h.within in ap p (mirror_in_word w k (omega arith))
        ∙ h.none_above k l;
    is_member = λ l. ap p (mirror_in_word w r l) ∙ h.is_member l;
  }

  -- the least member is how far the greatest member of the mirrored set lies below the last number
  pub mirrored_greatest : IsLeastMember (plain_set w p) r →
      IsGreatestMember (read_in true w (plain_set w p)) r
  mirrored_greatest h = record {
    within = h.within;
    none_above = λ k l. let low = h.within in
        ap p (mirror_in_word w (w - 1 - k) (omega arith) ∙ omega arith) ∙ h.none_below k l;
    is_member = λ l. ap p (mirror_in_word w (w - 1 - r) (omega arith) ∙ omega arith)
        ∙ h.is_member l;
  }

-- what holds of the inverted word holds of the complement, in an order
pub ends_of_rest : (m : Bool) (w d e : ℕ) (P : PlainSet → Type 0) → 0 < w → d < 2 ^ w →
    e ≡ 2 ^ w - 1 - d → P (read_in m w (bit_set w e)) →
    P (complement (read_in m w (bit_set w d)))
ends_of_rest m w d e P h fits is got =
    let one : (words : ℕ) × (w ≡ words * w) = (1, omega arith) in
    subst P (sym (complement-members m w (bit_set w d) h one
    ∙ ap (λ p. read_in m w (plain_set w p))
    (sym (ap (bit_has w) is ∙ bit_has-not w d fits)))) got

-- the number less one, if its least set bit is r: bit r is 0, and the bits above stay
record Lowered (d r : ℕ) : Type 0 where
  there : bit_at (d - 1) r ≡ 0
  above : (k : ℕ) → r < k → bit_at (d - 1) k ≡ bit_at d k

lowered : (r d : ℕ) → ((i : ℕ) → i < r → bit_at d i ≡ 0) → bit_at d r ≡ 1 → Lowered d r
lowered zero d below there = record { there = bit_at_lowest (d - 1) ∙ even; above = above }
  where
    odd : d % 2 ≡ 1
    odd = sym (bit_at_lowest d) ∙ there

    even : (d - 1) % 2 ≡ 0
    even = omega (
      arith,
      odd,
      div-add-mod' d 2,
      div-add-mod' (d - 1) 2,
      mod_below (d - 1) 2 (omega arith),
    )

    half : (d - 1) / 2 ≡ d / 2
    half = omega (arith, odd, even, div-add-mod' d 2, div-add-mod' (d - 1) 2)

    above : (k : ℕ) → 0 < k → bit_at (d - 1) k ≡ bit_at d k
    above zero h = absurd (omega arith)
    above (suc k) h = bit_at-suc (d - 1) k ∙ ap (λ x. bit_at x k) half ∙ sym (bit_at-suc d k)
lowered (suc r) d below there = up (lowered r (d / 2)
    (λ i h. sym (bit_at-suc d i) ∙ below (suc i) (omega (arith, h))) (sym (bit_at-suc d r) ∙ there))
  where
    even : d % 2 ≡ 0
    even = sym (bit_at_lowest d) ∙ below 0 (omega arith)

    half : (d - 1) / 2 ≡ d / 2 - 1
    half = elim (cases_eq (d / 2) 0) [
      | inl z ↦ absurd (let none : bit_at (d / 2) r ≡ 0 = ap (λ x. bit_at x r) z ∙ bit_at-zero r in
          let one = sym (bit_at-suc d r) ∙ there in omega (arith, none, one))
      | inr n ↦ omega (
        arith,
        even,
        n,
        div-add-mod' d 2,
        div-add-mod' (d - 1) 2,
        mod_below (d - 1) 2 (omega arith),
      )
    ]

    above : Lowered (d / 2) r → (k : ℕ) → suc r < k → bit_at (d - 1) k ≡ bit_at d k
    above rest zero h = absurd (omega arith)
    above rest (suc k) h = bit_at-suc (d - 1) k ∙ ap (λ x. bit_at x k) half
        ∙ rest.above k (omega (arith, h)) ∙ sym (bit_at-suc d k)

    up : Lowered (d / 2) r → Lowered d (suc r)
    up rest = record {
      there = bit_at-suc (d - 1) r ∙ ap (λ x. bit_at x r) half ∙ rest.there;
      above = above rest;
    }

-- patterns with an equal bit are words with an equal bit
bit-same : (w d e k : ℕ) → bit_at e k ≡ bit_at d k → bit_has w e k ≡ bit_has w d k
unfolding bit_has
bit-same w d e k is = ap (λ b. nat_lt k w && (b == 1)) is

bit-none : (w e k : ℕ) → bit_at e k ≡ 0 → bit_has w e k ≡ false
unfolding bit_has
bit-none w e k is = ap (λ b. nat_lt k w && (b == 1)) is ∙ and_right (nat_lt k w) false refl

-- the and of a word and the word less one lacks only the least set bit
less_least : (w d r : ℕ) → IsLeastMember (bit_set w d) r → r < w →
    bit_set w (bit_and d (d - 1)) ≡ without_index (bit_set w d) r
less_least w d r least h = ap (plain_set w) (bit_has-and w d (d - 1) ∙ fun_ext at)
    ∙ sym (without_in (bit_set w d) w r refl (omega arith))
  where
    bit : (i : ℕ) → i < w → bit_has w d i ≡ false → bit_at d i ≡ 0
    bit i l none = elim (cases_eq (bit_at d i) 1) [
      | inl e ↦ absurd (let one = bit_has-at w d i l ∙ eq-eqb (bit_at d i) 1 e in cc)
      | inr n ↦ omega (arith, bit_at-lt d i)
    ]

    low : Lowered d r
    low = lowered r d (λ i l. bit i (omega arith) (least.none_below i l)) (top (least.is_member h))
      where
        top : bit_has w d r ≡ true → bit_at d r ≡ 1
        top one = elim (cases_eq (bit_at d r) 1) [
          | inl e ↦ e
          | inr n ↦ absurd
              (let none = bit_has-at w d r h ∙ ne_eqb (bit_at d r) 1 n in cc)
        ]

    at : (k : ℕ) → bit_has w d k && bit_has w (d - 1) k ≡ not (k == r % w) && bit_has w d k
    at k = elim (cases_lt k r) [
      | inl l ↦ rw (least.none_below k l) (sym (and_right (not (k == r % w)) false refl))
      | inr g ↦ elim (cases_eq k r) [
        | inl e ↦
            let gone = bit-none w (d - 1) r low.there in
            rw (e, gone, mod-eq_of_lt h, eq-eqb r r refl) (and_right (bit_has w d r) false refl)
        | inr n ↦
            let same = bit-same w d (d - 1) k (low.above k (omega arith)) in
            rw (same, mod-eq_of_lt h, ne_eqb k r n) (and_self (bit_has w d k))
      ]
    ]

-- in the mirrored order the greatest member is the least set bit
least_mirrored : (w d r : ℕ) → r < w → IsGreatestMember (read_in true w (bit_set w d)) r →
    IsLeastMember (bit_set w d) r
least_mirrored w d r h greatest = subst (λ p. IsLeastMember (plain_set w p) r)
    (fun_ext λ k. ap (bit_has w d) (mirror-mirror w k (omega arith)))
    (mirrored_least w r (λ k. bit_has w d (mirror w k)) greatest)

-- so in that order the and of a word and the word less one lacks only the greatest member
less_greatest : (w d r : ℕ) → IsGreatestMember (read_in true w (bit_set w d)) r → r < w →
    read_in true w (bit_set w (bit_and d (d - 1)))
    ≡ without_index (read_in true w (bit_set w d)) (w - 1 - r)
less_greatest w d r greatest h =
    ap (read_in true w) (less_least w d r (least_mirrored w d r h greatest) h
    ∙ without_in (bit_set w d) w r refl (omega arith))
    ∙ ap (plain_set w) (fun_ext each)
    ∙ sym (without_in (read_in true w (bit_set w d)) w (w - 1 - r) refl (omega arith))
  where
    far : r % w ≡ mirror w (w - 1 - r)
    far = mod-eq_of_lt h ∙ sym (mirror_in_word w (w - 1 - r) (omega arith) ∙ omega arith)

    each : (k : ℕ) → not (mirror w k == r % w) && bit_has w d (mirror w k)
        ≡ not (k == (w - 1 - r) % w) && bit_has w d (mirror w k)
    each k = ap (λ b. not b && bit_has w d (mirror w k)) (ap (λ x. mirror w k == x) far
        ∙ place_eq true w k (w - 1 - r) (omega arith)
        ∙ ap (λ x. k == x) (sym (mod-eq_of_lt (omega arith))))

-- the member at an end of a word that is not 0 lies below the width
pub end_within : (front m : Bool) (w d r : ℕ) → 0 < w → d < 2 ^ w → (d ≡ 0 → ⊥) →
    IsEndMember front (read_in m w (bit_set w d)) r → r < w
end_within front m w d r word fits some end = elim (cases_lt r w) [
  | inl l ↦ l
  | inr g ↦ absurd (some (none_listed m w d word fits
      (end-none front (read_in m w (bit_set w d)) r end g)))
]

-- if the member at an end is the set bit of least weight, the and of d and d - 1 takes it out of d
pub least_taken : (front m : Bool) (w d r : ℕ) → beq m front ≡ false →
    IsEndMember front (read_in m w (bit_set w d)) r → r < w →
    ascending (read_in m w (bit_set w d)) ≡ with_end front (place m w r)
    (ascending (read_in m w (bit_set w (bit_and d (d - 1)))))
least_taken true true w d r apart end h = absurd (true≢false apart)
least_taken true false w d r apart end h =
    end-taken true _ _ r r end h refl (less_least w d r end h)
least_taken false true w d r apart end h =
    let at : mirror w r ≡ w - 1 - r = mirror_in_word w r h in
    end-taken false _ _ r (mirror w r) end h at (less_greatest w d r end h
    ∙ ap (without_index (read_in true w (bit_set w d))) (sym at))
least_taken false false w d r apart end h = absurd (true≢false apart)

-- if the member at an end is the set bit of greatest weight, the and with the inverted mask takes
-- it out
pub greatest_taken : (front m : Bool) (w d e mask r : ℕ) → beq m front ≡ true →
    e ≡ 2 ^ (w - 1 - r) → e < 2 ^ w → mask ≡ 2 ^ w - 1 - e →
    IsEndMember front (read_in m w (bit_set w d)) r → r < w →
    ascending (read_in m w (bit_set w d)) ≡ with_end front (place m w (w - 1 - r))
    (ascending (read_in m w (bit_set w (bit_and d mask))))
greatest_taken front m w d e mask r alike one fits inverted end h =
    end-taken front (read_in m w (bit_set w d)) (read_in m w (bit_set w (bit_and d mask))) r
    (place m w (w - 1 - r)) end h (at front m alike)
    (place_cleared m w d e mask (w - 1 - r) (omega arith) one fits inverted)
  where
    at : (front m : Bool) → beq m front ≡ true → place m w (w - 1 - r) ≡ cond front r (w - 1 - r)
    at true true alike = mirror_in_word w (w - 1 - r) (omega arith) ∙ omega arith
    at true false alike = absurd (true≢false (sym alike))
    at false true alike = absurd (true≢false (sym alike))
    at false false alike = refl

-- the member at an end is a member
pub end_is_member : (front : Bool) (s : PlainSet) (r : ℕ) → IsEndMember front s r →
    r < s.capacity →
    let v = cond front r (s.capacity - 1 - r) in (v < s.capacity) × (s.has v ≡ true)
end_is_member true s r least h = (h, least.is_member h)
end_is_member false s r greatest h = (omega arith, greatest.is_member h)
