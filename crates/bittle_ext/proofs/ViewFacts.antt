-- How the words of a view determine the view.
use Rattle.std.proofs.Common.{◌≡◌, ℕ, ◌+◌, ◌-◌, ◌*◌, ◌%◌, ◌<◌, ◌≤◌, ◌==◌, ◌⊎◌, Bool, true, false}
use Rattle.std.proofs.Common.{not, ◌&&◌, min, max, ◌++◌, append-nil, Option, Some, None, is_some}
use Rattle.std.proofs.Common.{inl, inr, refl, sym, ap, ◌∙◌, arith}
use Rattle.std.proofs.Math.Nat.{mul-le-mul_right, mul-mod_left}
use Rattle.std.proofs.Math.Path.{fun_ext}
use Rattle.std.proofs.lemmas.Bool.{cases_lt, le-ltb, true≢false, eq-eqb, ne_eqb, and_right}
use Rattle.std.proofs.lemmas.Bool.{not-false, not-true}
use Rattle.bittle.specs.BitPatterns.{bit_has, bit_set}
use Rattle.bittle.specs.Orders.{place, read_in}
use Rattle.bittle.specs.PlainSet.{PlainSet, contains, is_in_span, span_set, size, ascending}
use Rattle.bittle.specs.PlainSet.{ascending_from}
use Rattle.bittle.specs.Searches.{IsFirstIn, PassesOver}
use Rattle.bittle.specs.SetOperations.{combination_of}
use Rattle.bittle.specs.Walk.{ones_or_zeros}
use Rattle.bittle.specs.Words.{word_has, word_of}
use Rattle.bittle_bits.proofs.AscendingLists.{ascending_from-add, ascending_from-none}
use Rattle.bittle_bits.proofs.BitSets.{no_digits}
use Rattle.bittle_bits.proofs.OnesOrZeros.{ones_or_zeros-members}
use Rattle.bittle_bits.proofs.PlaceLemmas.{place_below, place_past, place_part, place_in_word}
use Rattle.bittle_bits.proofs.PlaceLemmas.{place-place}
use Rattle.bittle_bits.proofs.PlainSets.{plain_set, contains_in}
use Rattle.bittle_bits.proofs.Sizes.{size-members}
use Rattle.bittle_bits.proofs.Spans.{is_in_span-outside, is_in_span-inside}
use Rattle.bittle_bits.proofs.Words.{digit_at, word_has-at}
use Rattle.bittle.proofs.CallerSets.{contains_within, size_none, size_zero}
use Rattle.bittle_ext.specs.RangeMembers.{EndsAt, members_within, kind_within}
use Rattle.bittle_ext.specs.Views.{is_placed, read_back, HoldsBoth}
use Rattle.bittle_ext.proofs.CombinedWords.{decided_in_order, word_in_order}
use Rattle.bittle_ext.proofs.RangeItems.{none_outside}

-- ---- in an order and back

-- a set that is read back in an order is the set that is read in it
pub read_back_is : (m : Bool) (w : ℕ) (s : PlainSet) → read_back m w s ≡ read_in m w s
unfolding is_placed
read_back_is true w s = refl
read_back_is false w s = refl

-- a set that is read back in an order, and then read in it, is unchanged
pub read_twice : (m : Bool) (w : ℕ) (s : PlainSet) → 0 < w → read_in m w (read_back m w s) ≡ s
read_twice m w s word =
    ap (read_in m w) (read_back_is m w s)
    ∙ ap (plain_set s.capacity) (fun_ext λ i. ap s.has (place-place m w i word))

-- a set that is read back has as many members as the set
pub size_read_back : (m : Bool) (w : ℕ) (s : PlainSet) → 0 < w →
    (words : ℕ) × (s.capacity ≡ words * w) → size (read_back m w s) ≡ size s
size_read_back m w s word whole =
    ap (λ (t : PlainSet). size t) (read_back_is m w s) ∙ size-members m w s word whole

-- if a word, read in an order, is word k of a set, it is word k of the set read back
pub word_read_back : (m : Bool) (w k c d : ℕ) (s : PlainSet) → 0 < w →
    read_in m w (bit_set w d) ≡ word_of w s k →
    bit_set w d ≡ word_of w (read_back m w (plain_set c s.has)) k
unfolding word_has bit_has
word_read_back m w k c d s word is =
    ap (plain_set w) (fun_ext λ i. elim (cases_lt i w) [
      | inl l ↦
          let p = place m w i in
          let one : k * (1 * w) ≡ k * w = omega arith in
          let b : i < 1 * w = omega arith in
          let at : place m w (k * w + i) ≡ k * w + p = rw one at (place_part m w 1 k i word b) in
          ap (bit_has w d) (sym (place-place m w i word)) ∙ ap (λ t. t.has p) is
          ∙ word_has-at w s k p (place_in_word m w i l) ∙ ap s.has (sym at)
          ∙ sym (word_has-at w (read_in m w (plain_set c s.has)) k i l)
      | inr g ↦ rw (le-ltb i w g) refl
    ]) ∙ ap (λ t. word_of w t k) (sym (read_back_is m w (plain_set c s.has)))

-- a test of a bit of a word is a test of the set at the index of that bit
pub tested : (m : Bool) (w k o index : ℕ) (s : PlainSet) (d : ℕ) (r : Bool) → 0 < w →
    bit_set w d ≡ word_of w s k → r ≡ contains (read_in m w (bit_set w d)) o → o < w →
    k * w + o ≡ index % s.capacity → 0 < s.capacity → r ≡ contains (read_in m w s) index
tested m w k o index s d r word is got low at some =
    got ∙ contains_within (read_in m w (bit_set w d)) o low ∙ digit_at m w k s d word is o low
    ∙ ap (read_in m w s).has at ∙ sym (contains_in (read_in m w s) s.capacity index refl some)

-- ---- what an operation makes of two sets

-- a capacity of whole words is a multiple of the width
pub multiple : (w c : ℕ) → (words : ℕ) × (c ≡ words * w) → c % w ≡ 0
multiple w c whole = ap (λ n. n % w) whole.1 ∙ mul-mod_left whole.0 w

-- if two capacities are whole words of one width, so is the greater one
pub whole_greater : {a b : ℕ} (leaf w v : ℕ) → leaf ≡ w → leaf ≡ v →
    (words : ℕ) × (a ≡ words * w) → (words : ℕ) × (b ≡ words * v) →
    (words : ℕ) × (max a b ≡ words * w)
whole_greater {a} {b} leaf w v one other ours theirs =
    elim (cases_lt a b) [
      | inl l ↦ let e : max a b ≡ b = omega (arith, l) in
          (theirs.0, e ∙ theirs.1 ∙ ap (λ n. theirs.0 * n) (sym other ∙ one))
      | inr g ↦ let e : max a b ≡ a = omega (arith, g) in (ours.0, e ∙ ours.1)
    ]

module _ (f : Bool → Bool → Bool) {s t : PlainSet} {a b : ℕ} (x : EndsAt s a) (y : EndsAt t b)
    (w : ℕ) where
  -- if an operation takes the second set's members outside the first set, a capacity that is at
  -- least both holds its result
  pub holds_either : ((b : Bool) → f false b ≡ b) → (end : ℕ) → end < 4294967295 → end % w ≡ 0 →
      max a b ≤ end → HoldsBoth f w s t end
  holds_either takes end fits whole high = record {
    fits = fits;
    whole = whole;
    past = λ i h. (λ j. f (x.past i (omega (arith, high, h, x.capacity)) j)
        (y.past i (omega (arith, high, h, y.capacity)) j)) ∙ takes false;
    first = λ h. absurd (true≢false (sym (takes true) ∙ h true));
  }

-- if the result of an operation lies in the first set, the capacity of that set holds it
pub holds_first : (f : Bool → Bool → Bool) {s : PlainSet} {a : ℕ} → EndsAt s a → (t : PlainSet)
    (w : ℕ) → ((b : Bool) → f false b ≡ false) → a < 4294967295 → a % w ≡ 0 → HoldsBoth f w s t a
holds_first f x t w none fits whole = record {
  fits = fits;
  whole = whole;
  past = λ i h. ap (λ b. f b (t.has i)) (x.past i (omega (arith, h, x.capacity))) ∙ none (t.has i);
  first = λ _. omega (arith, x.capacity);
}

-- a greater capacity does not change the list of members, if no number past the lesser one is a
-- member
pub ascending_longer : (p : ℕ → Bool) (a b : ℕ) → a ≤ b → ((i : ℕ) → a ≤ i → p i ≡ false) →
    ascending (plain_set b p) ≡ ascending (plain_set a p)
ascending_longer p a b le none =
    let d = b - a in
    ascending_from-add p 0 a d b a (omega arith) (omega arith)
    ∙ ap (λ xs. ascending_from p 0 a ++ xs) (ascending_from-none p a d (λ k lo hi. none k lo))
    ∙ append-nil (ascending_from p 0 a)

-- ---- a range of a set

-- a range of a set is empty exactly if a search of the range finds no member
pub none_within : (s : PlainSet) (from to : ℕ) (r : Option ℕ) (b : Bool) → is_some r ≡ not b →
    to ≤ s.capacity → IsFirstIn s from to r → b ≡ (size (members_within s from to) == 0)
none_within s from to None b e within none =
    let inner = members_within s from to in
    not-false b (sym e) ∙ sym (eq-eqb (size inner) 0 (size_zero inner (λ k p q.
    elim (cases_lt k from) [
      | inl l ↦ none_outside s from to k (inl l)
      | inr g ↦ elim (cases_lt k to) [
        | inl l ↦ ap (λ a. is_in_span from to k && a) (none k g l)
            ∙ and_right (is_in_span from to k) false refl
        | inr h ↦ none_outside s from to k (inr h)
      ]
    ])))
none_within s from to (Some i) b e within first =
    let inner = members_within s from to in
    let here : inner.has i ≡ true = ap (λ a. a && s.has i)
    (is_in_span-inside from to i first.0 first.1) ∙ first.2 in
    not-true b (sym e) ∙ sym (ne_eqb (size inner) 0 (λ z. true≢false (sym here
    ∙ size_none inner z i (omega arith) (omega (arith, first.1, within)))))

-- a place of word k lies in a span where it lies in what the span leaves of the word
span_in_word : (w start from to p : ℕ) → p < w →
    is_in_span (min (from - start) w) (min (to - start) w) p ≡ is_in_span from to (start + p)
span_in_word w start from to p h =
    elim (cases_lt (start + p) from) [
      | inl l ↦ is_in_span-outside _ _ p (inl (omega (arith, l, h)))
          ∙ sym (is_in_span-outside from to (start + p) (inl l))
      | inr g ↦ elim (cases_lt (start + p) to) [
        | inl l ↦ is_in_span-inside _ _ p (omega (arith, g, h)) (omega (arith, l, h))
            ∙ sym (is_in_span-inside from to (start + p) g l)
        | inr e ↦ is_in_span-outside _ _ p (inr (omega (arith, e, h)))
            ∙ sym (is_in_span-outside from to (start + p) (inr e))
      ]
    ]

-- what the span leaves of word k is word k of the span
span_word : (w k c from to : ℕ) →
    span_set w (min (from - k * w) w) (min (to - k * w) w) ≡ word_of w (span_set c from to) k
unfolding word_has
span_word w k c from to =
    ap (plain_set w) (fun_ext λ i. elim (cases_lt i w) [
      | inl l ↦ span_in_word w (k * w) from to i l
          ∙ sym (word_has-at w (span_set c from to) k i l)
      | inr g ↦ is_in_span-outside _ _ i (inr (omega (arith, g))) ∙ rw (le-ltb i w g) refl
    ])

-- d is word k of the bits of a kind
module _ (ones m : Bool) (w k from to : ℕ) (s : PlainSet) (d : ℕ) (word : 0 < w)
    (whole : (words : ℕ) × (s.capacity ≡ words * w))
    (is : bit_set w d ≡ word_of w (ones_or_zeros ones s) k) where
  abbrev all : PlainSet
  all = ones_or_zeros ones (read_in m w s)

  abbrev kept : PlainSet
  kept = kind_within ones (read_in m w s) from to

  in_order : read_in m w (bit_set w d) ≡ word_of w all k
  in_order = word_in_order m w k (ones_or_zeros ones s) d word is
      ∙ ap (λ u. word_of w u k) (sym (ones_or_zeros-members ones m w s word whole))

  -- the word, cut to the part in the range, is word k of the range's view
  pub word_within : (e r : ℕ) →
      read_in m w (bit_set w e) ≡ span_set w (min (from - k * w) w) (min (to - k * w) w) →
      bit_set w r ≡ combination_of ◌&&◌ (bit_set w e) (bit_set w d) →
      bit_set w r ≡ word_of w (read_back m w kept) k
  unfolding word_has
  word_within e r span both = word_read_back m w k s.capacity r kept word
      (decided_in_order ◌&&◌ m w k (span_set s.capacity from to) all r e d word both
      (span ∙ span_word w k s.capacity from to) in_order)

  -- where no bit of it lies outside the span, it is kept
  kept_where : ((i : ℕ) → i < w →
      (is_in_span from to (k * w + i) && all.has (k * w + i)) ≡ all.has (k * w + i)) →
      bit_set w d ≡ word_of w (read_back m w kept) k
  unfolding word_has
  kept_where all_in = word_read_back m w k s.capacity d kept word (in_order
      ∙ ap (plain_set w) (fun_ext λ i. elim (cases_lt i w) [
        | inl l ↦ word_has-at w all k i l ∙ sym (all_in i l) ∙ sym (word_has-at w kept k i l)
        | inr g ↦ rw (le-ltb i w g) refl
      ]))

  -- the empty word is word k of the range's view if word k of the set has no bits
  pub word_none : d ≡ 0 → bit_set w d ≡ word_of w (read_back m w kept) k
  word_none zero = kept_where (λ i l.
      let none : all.has (k * w + i) ≡ false = sym (word_has-at w all k i l)
      ∙ ap (λ t. t.has i) (sym in_order) ∙ ap (λ t. t.has (place m w i)) (no_digits w d zero) in
      rw none (and_right (is_in_span from to (k * w + i)) false refl))

  -- a word that lies wholly in the range is word k of the range's view
  pub word_inside : from ≤ k * w → k * w + w ≤ to → bit_set w d ≡ word_of w (read_back m w kept) k
  word_inside low high = kept_where (λ i l. ap (λ b. b && all.has (k * w + i))
      (is_in_span-inside from to (k * w + i) (omega (arith, low)) (omega (arith, high, l))))

-- ---- the words outside a range

module _ (ones m : Bool) (w from to low high q r : ℕ) (t : PlainSet) (word : 0 < w)
    (order : low ≤ high) where
  -- an index whose place lies outside the range is none of it
  outside : (i : ℕ) → (place m w i < from) ⊎ (to ≤ place m w i) →
      (read_back m w (kind_within ones t from to)).has i ≡ false
  outside i out = ap (λ (u : PlainSet). u.has i) (read_back_is m w (kind_within ones t from to))
      ∙ ap (λ b. b && (ones_or_zeros ones t).has (place m w i))
      (is_in_span-outside from to (place m w i) out)

  -- the words below word p have no member of a range that starts in no word below p
  ahead : (p : ℕ) → q * w ≤ from → p ≤ q → (i : ℕ) → i < p * w →
      (read_back m w (kind_within ones t from to)).has i ≡ false
  ahead p start below i hi =
      let up : p * w ≤ q * w = mul-le-mul_right w below in
      let at : place m w i < q * w = place_below m w q i word (omega (arith, hi, up)) in
      outside i (inl (omega (arith, at, start)))

  -- the words from word p on have no member of a range that ends in no word from p on
  past : (p : ℕ) → to ≤ q * w → q ≤ p → (i : ℕ) → p * w ≤ i →
      (read_back m w (kind_within ones t from to)).has i ≡ false
  past p end since i lo =
      let up : q * w ≤ p * w = mul-le-mul_right w since in
      let at : q * w ≤ place m w i = place_past m w q i word (omega (arith, lo, up)) in
      outside i (inr (omega (arith, at, end)))

  -- the words before that of the start of a range have no member of it
  pub before_range : q * w ≤ from → r ≡ min (max q low) high →
      PassesOver true w (read_back m w (kind_within ones t from to)) low high r
  before_range start is = (
    omega (arith, is, order),
    omega (arith, is),
    λ i lo hi. elim (cases_lt low q) [
      | inl l ↦ ahead r start (omega (arith, is, l)) i hi
      | inr g ↦
          let same : r ≡ low = omega (arith, is, g, order) in
          absurd (omega (arith, lo, rw same at hi))
    ],
  )

  -- the words past the end of a range have no member of it
  pub after_range : to ≤ q * w → r ≡ max (min q high) low →
      PassesOver false w (read_back m w (kind_within ones t from to)) low high r
  after_range end is = (
    omega (arith, is),
    omega (arith, is, order),
    λ i lo hi. elim (cases_lt q high) [
      | inl l ↦ past r end (omega (arith, is, l)) i lo
      | inr g ↦
          let same : r ≡ high = omega (arith, is, g, order) in
          absurd (omega (arith, rw same at lo, hi))
    ],
  )

  -- words that begin past the end of a range have no member of it
  pub wholly_after : to ≤ q * w → q ≤ low → r ≡ high →
      PassesOver true w (read_back m w (kind_within ones t from to)) low high r
  wholly_after end since is = (
    omega (arith, is, order),
    omega (arith, is),
    λ i lo _. past low end since i lo,
  )

  -- words that end before the start of a range have no member of it
  pub wholly_before : q * w ≤ from → high ≤ q → r ≡ low →
      PassesOver false w (read_back m w (kind_within ones t from to)) low high r
  wholly_before start below is = (
    omega (arith, is),
    omega (arith, is, order),
    λ i _ hi. ahead high start below i hi,
  )
