-- Ranges of a set as numbers, gathered word by word.
use Rattle.std.proofs.Common.{◌≡◌, ℕ, zero, suc, ◌+◌, ◌-◌, ◌*◌, ◌/◌, ◌%◌, ◌^◌, ◌<◌, ◌≤◌, ◌⊎◌, Bool}
use Rattle.std.proofs.Common.{true, false, cond, ◌&&◌, ◌==◌, nat_lt, inl, inr, refl, sym, ap, ◌∙◌}
use Rattle.std.proofs.Common.{arith, bit_and, bit_or}
use Rattle.std.specs.Int.{bit_at}
use Rattle.std.proofs.Math.Path.{fun_ext}
use Rattle.std.proofs.Math.Nat.{mod-eq_of_lt}
use Rattle.std.proofs.Math.Pow.{pow_mono, shr_lt}
use Rattle.std.proofs.lemmas.Bool.{cases_eq, cases_lt, eq-eqb, le-ltb, lt-ltb, ne_eqb}
use Rattle.std.proofs.lemmas.Nat.{and_mask, mod_below, mul-add-lt, or_shifted, pow-add, pow_pos}
use Rattle.std.proofs.lemmas.Nat.{shr_split}
use Rattle.std.proofs.lemmas.Nat.Bits.{bit_at-lt, bit_at_above, bit_at_cat_high, bit_at_cat_low}
use Rattle.std.proofs.lemmas.Nat.Bits.{ones_shr}
use Rattle.bittle.specs.BitPatterns.{bit_has, bit_set}
use Rattle.bittle.specs.Orders.{mirror, place, read_in}
use Rattle.bittle.specs.PlainSet.{PlainSet, is_in_span}
use Rattle.bittle.specs.SetOperations.{combination_of, just_one}
use Rattle.bittle.specs.Words.{word_has, word_of}
use Rattle.bittle_bits.specs.LawProofs.{bit_has-past}
use Rattle.bittle_bits.proofs.BitSets.{all_digits, bit_has-at, bit_has-zero, full_word}
use Rattle.bittle_bits.proofs.PlaceLemmas.{mirror_in_word, place-place, place_past}
use Rattle.bittle_bits.proofs.PlainSets.{plain_set}
use Rattle.bittle_bits.proofs.SetOperations.{combination-below}
use Rattle.bittle_bits.proofs.Spans.{is_in_span-inside, is_in_span-outside}
use Rattle.bittle_bits.proofs.WordOperations.{word_combined}
use Rattle.bittle_bits.proofs.Words.{digit_at}
use Rattle.bittle_ext.specs.Numbers.{number_in, HasBitsOf, has_copied}
use Rattle.bittle_ext.specs.Rotations.{IsWindow}
use Rattle.bittle_ext.proofs.Windows.{bit_at_masked, bit_at_shifted}

-- a number that has the bits of word k of a set is that word
pub number_word : (w k d : ℕ) (s : PlainSet) → HasBitsOf s (k * w) w d → bit_set w d ≡ word_of w s k
unfolding bit_has word_has
number_word w k d s bits = ap (plain_set w) (fun_ext λ i. elim (cases_lt i w) [
  | inl l ↦ ap (λ b. nat_lt i w && b) (bits i l)
  | inr g ↦ rw (le-ltb i w g) refl
])

-- a number below 2 ^ n whose n bits are those of a range of a set is the number of that range
pub number_is : (s : PlainSet) (first n d : ℕ) → d < 2 ^ n → HasBitsOf s first n d →
    d ≡ number_in s first n
unfolding number_in
number_is s first zero d fits bits = omega (arith, fits)
number_is s first (suc n) d fits bits =
    let low = number_is s first n (d % 2 ^ n) (mod_below d (2 ^ n) (pow_pos n))
    (λ i h. ap (λ x. x == 1) (bit_at_masked d n i h) ∙ bits i (omega (arith, h))) in
    let one : 1 + n ≡ suc n = omega arith in
    let high : d / 2 ^ n < 2 = shr_lt 1 n (omega (arith, fits, ap (λ k. 2 ^ k) one)) in
    let top : d / 2 ^ n * 2 ^ n ≡ cond (s.has (first + n)) (2 ^ n) 0 =
    elim (cases_eq (bit_at d n) 1) [
      | inl e ↦
          let is : d / 2 ^ n ≡ 1 = omega (arith, high, e) in
          ap (λ k. k * 2 ^ n) is ∙ omega arith ∙ sym (ap (λ b. cond b (2 ^ n) 0)
          (sym (bits n (omega arith)) ∙ eq-eqb (bit_at d n) 1 e))
      | inr other ↦
          let is : d / 2 ^ n ≡ 0 = omega (arith, high, other, bit_at-lt d n) in
          ap (λ k. k * 2 ^ n) is ∙ omega arith ∙ sym (ap (λ b. cond b (2 ^ n) 0)
          (sym (bits n (omega arith)) ∙ ne_eqb (bit_at d n) 1 other))
    ] in
    omega (arith, shr_split d n, low, top)

-- r has the 128 bits of a number reversed; shifted down by 128 - w, it has the w lowest bits of the
-- number reversed
module _ (w bits r : ℕ) (word : 0 < w) (small : w ≤ 128)
    (mirrored : (i : ℕ) → i < 128 → bit_at r i ≡ bit_at bits (127 - i)) where
  pub ordered_fits : r < 2 ^ 128 → r / 2 ^ (128 - w) < 2 ^ w
  ordered_fits fits =
      let parts : w + (128 - w) ≡ 128 = omega (arith, small) in
      shr_lt w (128 - w) (omega (arith, fits, ap (λ k. 2 ^ k) parts))

  pub ordered_set : bit_set w (r / 2 ^ (128 - w)) ≡ read_in true w (bit_set w bits)
  ordered_set = ap (plain_set w) (fun_ext λ i. elim (cases_lt i w) [
    | inl l ↦
        let e : 127 - (i + (128 - w)) ≡ w - 1 - i = omega (arith, small, l) in
        bit_has-at w (r / 2 ^ (128 - w)) i l
        ∙ ap (λ b. b == 1) (bit_at_shifted r (128 - w) i
        ∙ mirrored (i + (128 - w)) (omega (arith, l, small)) ∙ ap (bit_at bits) e)
        ∙ sym (ap (bit_has w bits) (mirror_in_word w i l)
        ∙ bit_has-at w bits (w - 1 - i) (omega (arith, word)))
    | inr g ↦
        let past : 1 * w ≤ mirror w i = place_past true w 1 i word (omega (arith, g)) in
        bit_has-past w (r / 2 ^ (128 - w)) i g
        ∙ sym (bit_has-past w bits (mirror w i) (omega (arith, past)))
  ])

-- a set that is read in the same order twice is unchanged
pub read_twice : (m : Bool) (w : ℕ) (s t : PlainSet) → 0 < w → t ≡ read_in m w s → read_in m w t ≡ s
read_twice m w s t word is =
    ap (read_in m w) is
    ∙ ap (plain_set s.capacity) (fun_ext λ i. ap s.has (place-place m w i word))

-- the mask of all bits, shifted down, keeps the k lowest bits of a number
pub lowest : (n w k by ones : ℕ) → ones ≡ 2 ^ w - 1 → k ≤ w → by ≡ w - k →
    bit_and n (ones / 2 ^ by) ≡ n % 2 ^ k
lowest n w k by ones all h is =
    let e : w - by ≡ k = omega (arith, h, is) in
    ap (λ o. bit_and n (o / 2 ^ by)) all
    ∙ ap (bit_and n) (ones_shr w by (omega (arith, is)) ∙ ap (λ j. 2 ^ j - 1) e) ∙ and_mask n k

-- the `more` bits of word k from `from` on are those of the set from `index` on
pub bits_of_word : (m : Bool) (w k from more index p x v : ℕ) (s : PlainSet) → 0 < w →
    bit_set w p ≡ word_of w s k → bit_set w x ≡ read_in m w (bit_set w p) →
    k * w + from ≡ index → from + more ≤ w → v ≡ x / 2 ^ from % 2 ^ more →
    HasBitsOf (read_in m w s) index more v
bits_of_word m w k from more index p x v s word ours number at within is i h =
    let inside : i + from < w = omega (arith, within, h) in
    ap (λ b. b == 1) (ap (λ n. bit_at n i) is ∙ bit_at_masked (x / 2 ^ from) more i h
    ∙ bit_at_shifted x from i)
    ∙ sym (bit_has-at w x (i + from) inside) ∙ ap (λ u. u.has (i + from)) number
    ∙ digit_at m w k s p word ours (i + from) inside
    ∙ ap (read_in m w s).has (omega (arith, at))

-- a window over word k of a set begins with the bits of the set from an index of that word on
module _ (m : Bool) (w k from first count p r : ℕ) (s t : PlainSet) (word : 0 < w)
    (at : k * w + from ≡ first) (ours : bit_set w p ≡ word_of w s k)
    (is : IsWindow w from (read_in m w (bit_set w p)) t (read_in m w (bit_set w r))) where
  here : (i : ℕ) → i + from < w →
      (read_in m w (bit_set w r)).has i ≡ (read_in m w s).has (first + i)
  here i h = is.first i h ∙ digit_at m w k s p word ours (i + from) h
      ∙ ap (read_in m w s).has (omega (arith, at))

  pub near_one : from + count ≤ w → (i : ℕ) → i < count →
      (read_in m w (bit_set w r)).has i ≡ (read_in m w s).has (first + i)
  near_one within i h = here i (omega (arith, within, h))

  pub near_two : (q : ℕ) → t ≡ read_in m w (bit_set w q) → bit_set w q ≡ word_of w s (k + 1) →
      from < w → count ≤ w → (i : ℕ) → i < count →
      (read_in m w (bit_set w r)).has i ≡ (read_in m w s).has (first + i)
  near_two q second theirs low within i h = elim (cases_lt (i + from) w) [
    | inl l ↦ here i l
    | inr g ↦
        let o = i + from - w in
        let on : (k + 1) * w ≡ k * w + w = omega arith in
        is.second i (omega (arith, h, within)) g ∙ ap (λ (u : PlainSet). u.has o) second
        ∙ digit_at m w (k + 1) s q word theirs o (omega (arith, low, h, within, g))
        ∙ ap (read_in m w s).has (omega (arith, at, on, g))
  ]

-- the first `count` bits of a word, as a number, are those of the set from `first` on
pub bits_of_first : (w first count x v : ℕ) (s : PlainSet) → count ≤ w → v ≡ x % 2 ^ count →
    ((i : ℕ) → i < count → (bit_set w x).has i ≡ s.has (first + i)) → HasBitsOf s first count v
bits_of_first w first count x v s within is same i h =
    ap (λ b. b == 1) (ap (λ n. bit_at n i) is ∙ bit_at_masked x count i h)
    ∙ sym (bit_has-at w x i (omega (arith, within, h))) ∙ same i h

-- a number of `done` bits below one of `more` bits
module _ (s : PlainSet) (first done more number v r : ℕ) (below : number < 2 ^ done)
    (small : v < 2 ^ more) (within : done + more ≤ 128)
    (is : r ≡ bit_or (v * 2 ^ done % 2 ^ 128) number) where
  joined_below : v * 2 ^ done + number < 2 ^ (done + more)
  joined_below =
      let some = mul-add-lt v (2 ^ done) number (2 ^ more) small below in
      let e : more + done ≡ done + more = omega arith in
      omega (arith, some, pow-add 2 more done, ap (λ k. 2 ^ k) e)

  joined : r ≡ v * 2 ^ done + number
  joined =
      let top : 2 ^ (done + more) ≤ 2 ^ 128 = pow_mono within in
      is ∙ ap (λ n. bit_or n number) (mod-eq_of_lt (omega (arith, joined_below, top)))
      ∙ or_shifted v done number below

  pub more_below : r < 2 ^ (done + more)
  more_below = omega (arith, joined, joined_below)

  pub more_bits : HasBitsOf s first done number → HasBitsOf s (first + done) more v →
      HasBitsOf s first (done + more) r
  more_bits bits next i h =
      elim (cases_lt i done) [
        | inl l ↦ ap (λ b. b == 1) (ap (λ n. bit_at n i) joined
            ∙ bit_at_cat_low v done number i l) ∙ bits i l
        | inr g ↦ ap (λ b. b == 1) (ap (λ n. bit_at n i) joined
            ∙ bit_at_cat_high v done number i below g) ∙ next (i - done) (omega (arith, h, g))
            ∙ ap s.has (omega (arith, g))
      ]

-- a number of `end` bits has the bits of a range of n, if the rest of the range is past the
-- capacity
pub bits_past : (s : PlainSet) (first n end d : ℕ) → ((i : ℕ) → s.capacity ≤ i → s.has i ≡ false) →
    (end ≡ n) ⊎ (s.capacity ≤ first + end) → d < 2 ^ end → HasBitsOf s first end d →
    HasBitsOf s first n d
bits_past s first n end d past ends fits bits i h =
    elim (cases_lt i end) [
      | inl l ↦ bits i l
      | inr g ↦ elim ends [
        | inl e ↦ absurd (omega (arith, e, h, g))
        | inr far ↦ ap (λ b. b == 1) (bit_at_above d end i fits g)
            ∙ sym (past (first + i) (omega (arith, far, g)))
      ]
    ]

-- a window over a word of set bits and a word of unset ones has just its first `count` bits set
pub first_of_ones : (m : Bool) (w count ones unset r i : ℕ) → 0 < w → i < w → count ≤ w →
    unset ≡ 0 → unset < 2 ^ w → ones ≡ 2 ^ w - 1 - unset →
    IsWindow w (w - count) (read_in m w (bit_set w ones)) (read_in m w (bit_set w unset))
    (read_in m w (bit_set w r)) → (read_in m w (bit_set w r)).has i ≡ is_in_span 0 count i
first_of_ones m w count ones unset r i word h within none fits all window =
    elim (cases_lt i count) [
      | inl l ↦
          let b : i + (w - count) < w = omega (arith, within, l) in
          window.first i b
          ∙ ap (λ u. u.has (i + (w - count))) (full_word w ones word
          (all_digits w unset ones none fits all) m)
          ∙ lt-ltb _ _ b ∙ sym (is_in_span-inside 0 count i (omega arith) l)
      | inr g ↦ window.second i h (omega (arith, within, g))
          ∙ ap (λ p. p (place m w (i + (w - count) - w))) (bit_has-zero w unset none)
          ∙ sym (is_in_span-outside 0 count i (inr g))
    ]

-- the first `count` bits of a word, moved up by `from`, are the bits of a span from there on
pub first_moved : (m : Bool) (w from count unset first r i : ℕ) → i < w → from + count ≤ w →
    unset ≡ 0 → ((i : ℕ) → i < w → (read_in m w (bit_set w first)).has i ≡ is_in_span 0 count i) →
    IsWindow w (w - from) (read_in m w (bit_set w unset)) (read_in m w (bit_set w first))
    (read_in m w (bit_set w r)) →
    (read_in m w (bit_set w r)).has i ≡ is_in_span from (from + count) i
first_moved m w from count unset first r i h within none span window =
    elim (cases_lt i from) [
      | inl l ↦ window.first i (omega (arith, within, l))
          ∙ ap (λ p. p (place m w (i + (w - from)))) (bit_has-zero w unset none)
          ∙ sym (is_in_span-outside from (from + count) i (inl l))
      | inr g ↦
          let o = i + (w - from) - w in
          window.second i h (omega (arith, within, g)) ∙ span o (omega (arith, within, h, g))
          ∙ elim (cases_lt i (from + count)) [
            | inl l ↦ is_in_span-inside 0 count o (omega arith) (omega (arith, within, l, g))
                ∙ sym (is_in_span-inside from (from + count) i g l)
            | inr far ↦ is_in_span-outside 0 count o (inr (omega (arith, within, far)))
                ∙ sym (is_in_span-outside from (from + count) i (inr far))
          ]
    ]

-- a word that is cut to its first `end` bits
pub cut_to_first : (m : Bool) (w end p mask r i : ℕ) → 0 < w → i < w →
    (read_in m w (bit_set w mask)).has i ≡ is_in_span 0 end i →
    bit_set w r ≡ combination_of ◌&&◌ (bit_set w p) (bit_set w mask) →
    (read_in m w (bit_set w r)).has i ≡ ((read_in m w (bit_set w p)).has i && is_in_span 0 end i)
cut_to_first m w end p mask r i word h span is =
    ap (λ u. u.has i) (word_combined ◌&&◌ w p mask r m word is)
    ∙ combination-below ◌&&◌ (read_in m w (bit_set w p)) (read_in m w (bit_set w mask)) i h h
    ∙ ap (λ b. (read_in m w (bit_set w p)).has i && b) span

-- a word of which some bits are replaced by the first bits of another word
module _ (m : Bool) (w from count p q mask moved other change r : ℕ) (t : PlainSet) (word : 0 < w)
    (within : from + count ≤ w)
    (window : IsWindow w (w - from) t (read_in m w (bit_set w q)) (read_in m w (bit_set w moved)))
    (span : (i : ℕ) → i < w →
    (read_in m w (bit_set w mask)).has i ≡ is_in_span from (from + count) i)
    (differs : bit_set w other ≡ combination_of just_one (bit_set w p) (bit_set w moved))
    (cut : bit_set w change ≡ combination_of ◌&&◌ (bit_set w other) (bit_set w mask))
    (is : bit_set w r ≡ combination_of just_one (bit_set w p) (bit_set w change)) where
  abbrev at_place : ℕ → ℕ → Bool
  at_place d i = (read_in m w (bit_set w d)).has i

  combined : (f : Bool → Bool → Bool) (a b c : ℕ) →
      bit_set w c ≡ combination_of f (bit_set w a) (bit_set w b) → (i : ℕ) → i < w →
      at_place c i ≡ f (at_place a i) (at_place b i)
  combined f a b c e i h =
      ap (λ u. u.has i) (word_combined f w a b c m word e)
      ∙ combination-below f (read_in m w (bit_set w a)) (read_in m w (bit_set w b)) i h h

  change_at : (i : ℕ) → i < w → at_place change i
      ≡ (just_one (at_place p i) (at_place moved i) && is_in_span from (from + count) i)
  change_at i h = combined ◌&&◌ other mask change cut i h
      ∙ (λ j. combined just_one p moved other differs i h j && span i h j)

  twice : (a b : Bool) → just_one a (just_one a b && true) ≡ b
  twice true true = refl
  twice true false = refl
  twice false true = refl
  twice false false = refl

  kept : (a b : Bool) → just_one a (just_one a b && false) ≡ a
  kept true true = refl
  kept true false = refl
  kept false true = refl
  kept false false = refl

  pub replaced_bits : (i : ℕ) → i < w → at_place r i
      ≡ has_copied (read_in m w (bit_set w p)) from count (read_in m w (bit_set w q)) 0 i
  unfolding has_copied
  replaced_bits i h =
      combined just_one p change r is i h ∙ ap (just_one (at_place p i)) (change_at i h)
      ∙ elim (cases_lt i from) [
        | inl l ↦ rw (is_in_span-outside from (from + count) i (inl l))
            (kept (at_place p i) (at_place moved i))
        | inr g ↦ elim (cases_lt i (from + count)) [
          | inl l ↦
              let e : i + (w - from) - w ≡ i - from + 0 = omega (arith, within, g) in
              rw (is_in_span-inside from (from + count) i g l)
              (twice (at_place p i) (at_place moved i)
              ∙ window.second i h (omega (arith, within, g)) ∙ ap (at_place q) e)
          | inr far ↦ rw (is_in_span-outside from (from + count) i (inr far))
              (kept (at_place p i) (at_place moved i))
        ]
      ]
