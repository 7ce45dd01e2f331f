-- A search for a member in a range, word by word, from the front or from the back.
use Rattle.std.proofs.Common.{◌≡◌, ℕ, ◌+◌, ◌-◌, ◌*◌, ◌^◌, ◌<◌, ◌≤◌, ◌≢◌, ◌⊎◌, Bool, true, false}
use Rattle.std.proofs.Common.{not, ◌&&◌, ◌||◌, ◌==◌, cond, nat_lt, inl, inr, Some, None, refl, sym}
use Rattle.std.proofs.Common.{ap, ◌∙◌, arith, bit_and, bit_or}
use Rattle.std.proofs.Math.Bool.{and_comm}
use Rattle.std.proofs.Math.Nat.{mod-eq_of_lt, mul-le-mul_right}
use Rattle.std.proofs.lemmas.Bool.{cases_lt, cases_eq, eq-eqb, ne_eqb, lt-ltb, le-ltb, ltb-true}
use Rattle.std.proofs.lemmas.Bool.{ltb-false, not-true, and_parts}
use Rattle.bittle_bits.specs.BitPatterns.{bit_has, bit_set}
use Rattle.bittle_bits.specs.Ends.{is_ahead, IsEndIn, IsEndMember}
use Rattle.bittle_bits.specs.Orders.{place, read_in}
use Rattle.bittle_bits.specs.Pieces.{LiesAt}
use Rattle.bittle_bits.specs.PlainSet.{PlainSet, full_set_from, with_index, empty_set, lacks}
use Rattle.bittle_bits.specs.Searches.{NoneIn, IsNextWord}
use Rattle.bittle_bits.specs.Walk.{ones_or_zeros}
use Rattle.bittle_bits.specs.Words.{word_of}
use Rattle.bittle_bits.proofs.BitSets.{bit_has-and, bit_has-or, bit_has-not}
use Rattle.bittle_bits.proofs.PlaceLemmas.{place_in_word}
use Rattle.bittle_bits.proofs.OnesOrZeros.{ones_or_zeros-members}
use Rattle.bittle_bits.proofs.WordCalls.{at_mask}
use Rattle.bittle_bits.proofs.Words.{digit_at}

-- no member of a range lies before place r of word k, seen from the end
abbrev NoneBefore : Bool → ℕ → PlainSet → ℕ → ℕ → ℕ → ℕ → Type 0
NoneBefore true w t from to k r = NoneIn t from (k * w + r)
NoneBefore false w t from to k r = NoneIn t (k * w + (w - r)) to

-- A search of the words p to q found no member before word k. It now looks for the members in word
-- k that the pattern d has.
pub record Searches (front m : Bool) (w : ℕ) (t : PlainSet) (from to p q k d : ℕ) : Type 0 where
  pub first : p ≤ k
  pub last : k ≤ q
  pub none : NoneBefore front w t from to k 0
  pub seeks : (i : ℕ) → i < w →
      (read_in m w (bit_set w d)).has i ≡ is_ahead front from to (k * w + i) && t.has (k * w + i)

-- a comparison stays the same if both numbers are moved by a base
lt_moved : (base i n : ℕ) → nat_lt i n ≡ nat_lt (base + i) (base + n)
lt_moved base i n = elim (cases_lt i n) [
  | inl l ↦ lt-ltb i n l ∙ sym (lt-ltb (base + i) (base + n) (omega arith))
  | inr g ↦ le-ltb i n g ∙ sym (le-ltb (base + i) (base + n) (omega arith))
]

-- the indexes of a word up to `at` are those that are not from `at` on, and `at` itself
pub mask_up_to : (m : Bool) (w e n o at : ℕ) → 0 < w → at < w →
    read_in m w (bit_set w e) ≡ full_set_from w at → e < 2 ^ w → n ≡ 2 ^ w - 1 - e →
    read_in m w (bit_set w o) ≡ with_index (empty_set w) at → (i : ℕ) → i < w →
    (read_in m w (bit_set w (bit_or n o))).has i ≡ nat_lt i (at + 1)
unfolding lacks
mask_up_to m w e n o at word low from fits other one i h =
    ap (λ p. p (place m w i)) (bit_has-or w n o)
    ∙ ap (λ p. p (place m w i) || bit_has w o (place m w i))
    (ap (bit_has w) other ∙ bit_has-not w e fits)
    ∙ ap (λ b. (b && not (bit_has w e (place m w i))) || bit_has w o (place m w i))
    (lt-ltb (place m w i) w (place_in_word m w i h))
    ∙ ap (λ u. not (u.has i) || bit_has w o (place m w i)) from
    ∙ ap (λ b. not (b && not (nat_lt i at)) || bit_has w o (place m w i)) (lt-ltb i w h)
    ∙ ap (λ b. not (not (nat_lt i at)) || b)
    (at_mask m w e o at word one i ∙ ap (λ j. i == j) (mod-eq_of_lt low))
    ∙ same (cases_lt i at)
  where
    same : (i < at) ⊎ (at ≤ i) → not (not (nat_lt i at)) || (i == at) ≡ nat_lt i (at + 1)
    same (inl l) = rw (lt-ltb i at l, lt-ltb i (at + 1) (omega arith)) refl
    same (inr g) = elim (cases_eq i at) [
      | inl z ↦ rw (le-ltb i at g, eq-eqb i at z, lt-ltb i (at + 1) (omega arith)) refl
      | inr n ↦ rw (le-ltb i at g, ne_eqb i at n, le-ltb i (at + 1) (omega arith)) refl
    ]

-- seen from an end, no word comes after the last word
pub next_ended : (front : Bool) (w p q k : ℕ) (s : PlainSet) → k ≡ cond front q p →
    IsNextWord front w s p q k None
next_ended true w p q k s e = λ n lo hi. absurd (omega (arith, ap (λ k. k * w) e))
next_ended false w p q k s e = λ n lo hi. absurd (omega (arith, ap (λ k. k * w) e))

-- a search of a range, for the bits of a kind, in a set in an order
module _ (ones m : Bool) (w : ℕ) (big : PlainSet) (word : 0 < w)
    (whole : (words : ℕ) × (big.capacity ≡ words * w)) {from to p i q j : ℕ}
    (at : LiesAt w from to p i q j) where
  abbrev s : PlainSet
  s = ones_or_zeros ones big

  abbrev t : PlainSet
  t = ones_or_zeros ones (read_in m w big)

  -- a word between the first and the last word of the range has a number of the range
  pub word_within : (k : ℕ) → p ≤ k → k ≤ q → (from < k * w + w) × (k * w < to)
  word_within k lo hi =
      let after = mul-le-mul_right w lo in
      let before = mul-le-mul_right w hi in
      (omega (arith, at.from, at.begin, after), omega (arith, at.to, before))

  -- a place of word k
  has_at : (k d i : ℕ) → bit_set w d ≡ word_of w s k → i < w →
      bit_has w d (place m w i) ≡ t.has (k * w + i)
  has_at k d i is h = digit_at m w k s d word is i h
      ∙ sym (ap (λ t. t.has (k * w + i)) (ones_or_zeros-members ones m w big word whole))

  -- the search begins in the word of the range's first number, seen from the end; a mask keeps the
  -- bits from that number on
  pub search_start : (front : Bool) (k o d e : ℕ) → k ≡ cond front p q → o ≡ cond front i j →
      bit_set w d ≡ word_of w s k →
      ((n : ℕ) → n < w → (read_in m w (bit_set w e)).has n ≡ is_ahead front o (o + 1) n) →
      Searches front m w t from to p q k (bit_and d e)
  search_start front k o d e there here is mask =
      let at = by front there here in record {
        first = at.0;
        last = at.1;
        none = at.2;
        seeks = λ n h. ap (λ p. p (place m w n)) (bit_has-and w d e)
            ∙ ap (λ b. b && bit_has w e (place m w n)) (has_at k d n is h)
            ∙ ap (λ b. t.has (k * w + n) && b) (mask n h ∙ at.3 n)
            ∙ and_comm (t.has (k * w + n)) (is_ahead front from to (k * w + n));
      }
    where
      by : (front : Bool) → k ≡ cond front p q → o ≡ cond front i j →
          (p ≤ k) × (k ≤ q) × NoneBefore front w t from to k 0 × ((n : ℕ) →
          is_ahead front o (o + 1) n ≡ is_ahead front from to (k * w + n))
      by true there here =
          let starts : k * w + o ≡ from = omega (arith, at.from, here, ap (λ k. k * w) there) in (
            omega arith,
            omega (arith, at.in_order),
            λ n lo hi. absurd (omega (arith, starts)),
            λ n. ap not (lt_moved (k * w) n o ∙ ap (nat_lt (k * w + n)) starts),
          )
      by false there here =
          let ends : k * w + (o + 1) ≡ to = omega (arith, at.to, here, ap (λ k. k * w) there) in (
            omega (arith, at.in_order),
            omega arith,
            λ n lo hi. absurd (omega (arith, ends, here, at.top)),
            λ n. lt_moved (k * w) n (o + 1) ∙ ap (nat_lt (k * w + n)) ends,
          )

  -- word k, in which the search looks for the members of d
  module _ (front : Bool) (k d : ℕ) (h : Searches front m w t from to p q k d) where
    -- a number of word k that is ahead and not a member of d is not a member of the set
    passed : (j : ℕ) → k * w ≤ j → j < k * w + w →
        (read_in m w (bit_set w d)).has (j - k * w) ≡ false → is_ahead front from to j ≡ true →
        t.has j ≡ false
    passed j lo hi none within =
        let back : k * w + (j - k * w) ≡ j = omega arith in
        rw within at (rw back at (sym (h.seeks (j - k * w) (omega arith)) ∙ none))

  -- no number before the member of d at the end is a member
  none_up_to : (front : Bool) (k d r : ℕ) → Searches front m w t from to p q k d →
      IsEndMember front (read_in m w (bit_set w d)) r → NoneBefore front w t from to k r
  none_up_to true k d r h least = λ j lo hi.
      let within = least.within in
      elim (cases_lt j (k * w)) [
        | inl l ↦ h.none j lo (omega arith)
        | inr g ↦ passed true k d h j g (omega arith) (least.none_below (j - k * w) (omega arith))
            (ap not (le-ltb j from lo))
      ]
  none_up_to false k d r h greatest = λ j lo hi.
      let within = greatest.within in
      elim (cases_lt j (k * w + w)) [
        | inl l ↦
            let i = w - 1 - (j - k * w) in
            let turned : w - 1 - i ≡ j - k * w = omega arith in
            passed false k d h j (omega arith) l
            (rw turned at (greatest.none_above i (omega arith))) (lt-ltb j to hi)
        | inr g ↦ h.none j (omega arith) hi
      ]

  -- if d has no member, the search goes on at the next word that is not passed over
  pub search_next : (front : Bool) (k d r next e : ℕ) →
      IsNextWord front w t p q k (Some next) → Searches front m w t from to p q k d →
      IsEndMember front (read_in m w (bit_set w d)) r → r ≡ w → bit_set w e ≡ word_of w s next →
      Searches front m w t from to p q next e
  search_next front k d r next e on h member end is =
      let at = by front on (none_up_to front k d r h member) in record {
        first = at.0;
        last = at.1;
        none = at.2;
        seeks = λ i l. has_at next e i is l
            ∙ sym (ap (λ b. b && t.has (next * w + i)) (at.3 i l));
      }
    where
      by : (front : Bool) → IsNextWord front w t p q k (Some next) →
          NoneBefore front w t from to k r → (p ≤ next) × (next ≤ q)
          × NoneBefore front w t from to next 0
          × ((i : ℕ) → i < w → is_ahead front from to (next * w + i) ≡ true)
      by true on none =
          let begins = mul-le-mul_right w on.0 in
          let low = (word_within k h.first h.last).0 in (
            omega (arith, h.first, on.0),
            on.1,
            λ j lo hi. elim (cases_lt j (k * w + w)) [
              | inl l ↦ none j lo (omega (arith, end))
              | inr g ↦ on.2 j (omega arith) (omega arith)
            ],
            λ i l. ap not (le-ltb (next * w + i) from (omega (arith, low, begins))),
          )
      by false on none =
          let begins = mul-le-mul_right w on.1 in
          let high = (word_within k h.first h.last).1 in (
            on.0,
            omega (arith, h.last, on.1),
            λ j lo hi. elim (cases_lt j (k * w)) [
              | inl l ↦ on.2 j (omega arith) l
              | inr g ↦ none j (omega (arith, end)) hi
            ],
            λ i l. lt-ltb (next * w + i) to (omega (arith, high, begins)),
          )

  -- the member of d at the end is that of the range, if it is not past the range's other end
  pub search_found : (front : Bool) (k d r : ℕ) → Searches front m w t from to p q k d →
      IsEndMember front (read_in m w (bit_set w d)) r → r ≢ w →
      let o = k * w + cond front r (w - 1 - r) in
      cond front o from ≤ cond front (to - 1) o → IsEndIn front t from to (Some o)
  search_found true k d r h least other inside =
      let low : r < w = omega (arith, least.within, other) in
      let both = and_parts (not (nat_lt (k * w + r) from)) (t.has (k * w + r))
      (sym (h.seeks r low) ∙ least.is_member low) in (
        ltb-false (k * w + r) from (not-true (nat_lt (k * w + r) from) both.0),
        omega (arith, at.to, inside),
        both.1,
        none_up_to true k d r h least,
      )
  search_found false k d r h greatest other inside =
      let low : r < w = omega (arith, greatest.within, other) in
      let o = k * w + (w - 1 - r) in
      let both = and_parts (nat_lt o to) (t.has o)
      (sym (h.seeks (w - 1 - r) (omega arith)) ∙ greatest.is_member low) in
      let next : k * w + (w - r) ≡ o + 1 = omega arith in
      (inside, ltb-true o to both.0, both.1, rw next at (none_up_to false k d r h greatest))

  -- if d has no member, and no word after word k has one, the range has no member
  pub search_ended : (front : Bool) (k d r : ℕ) → IsNextWord front w t p q k None →
      Searches front m w t from to p q k d →
      IsEndMember front (read_in m w (bit_set w d)) r → r ≡ w → IsEndIn front t from to None
  search_ended true k d r last h least end = λ n lo hi. elim (cases_lt n (k * w + w)) [
    | inl l ↦ none_up_to true k d r h least n lo (omega (arith, end))
    | inr g ↦ last n (omega arith) (omega (arith, at.to, at.top))
  ]
  search_ended false k d r last h greatest end = λ n lo hi. elim (cases_lt n (k * w)) [
    | inl l ↦ last n (omega (arith, at.from)) l
    | inr g ↦ none_up_to false k d r h greatest n (omega (arith, end)) hi
  ]

-- The words p to q as a range: from place o of word p on, if they are searched from the front, and
-- up to place o of word q, if they are searched from the back.
abbrev pub words_from : Bool → ℕ → ℕ → ℕ → ℕ
words_from front w p o = cond front (p * w + o) (p * w)

abbrev pub words_to : Bool → ℕ → ℕ → ℕ → ℕ
words_to front w q o = cond front (q * w + w) (q * w + o + 1)

-- where this range lies
pub words_lie : (front : Bool) (w p q o : ℕ) → o < w → p ≤ q → LiesAt w (words_from front w p o)
    (words_to front w q o) p (cond front o 0) q (cond front (w - 1) o)
words_lie true w p q o place order = record {
  from = refl;
  begin = place;
  to = omega (arith, place);
  top = omega (arith, place);
  in_order = order;
  before_last = λ k h. omega (arith, mul-le-mul_right w h);
}
words_lie false w p q o place order = record {
  from = omega arith;
  begin = omega (arith, place);
  to = refl;
  top = place;
  in_order = order;
  before_last = λ k h. omega (arith, mul-le-mul_right w h);
}

-- the place at which the words begin, seen from the end
pub words_begin : (front : Bool) (w o : ℕ) → o ≡ cond front (cond front o 0) (cond front (w - 1) o)
words_begin true w o = refl
words_begin false w o = refl

-- each place of one of the words is within the end at which the words end
pub words_within : (front : Bool) (w p q o k r : ℕ) → p ≤ k → k ≤ q → r < w →
    let i = k * w + cond front r (w - 1 - r) in
    cond front i (words_from front w p o) ≤ cond front (words_to front w q o - 1) i
words_within true w p q o k r first last place = omega (arith, mul-le-mul_right w last, place)
words_within false w p q o k r first last place = omega (arith, mul-le-mul_right w first)
