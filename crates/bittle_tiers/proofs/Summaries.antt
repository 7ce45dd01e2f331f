-- What a summary tells of the words of a set, and what keeps it right.
use Rattle.std.proofs.Common.{◌≡◌, ◌≢◌, ℕ, suc, ◌+◌, ◌-◌, ◌*◌, ◌/◌, ◌%◌, ◌^◌, ◌<◌, ◌≤◌, Bool, true}
use Rattle.std.proofs.Common.{false, not, cond, ◌&&◌, ◌==◌, nat_lt, nat_le, inl, inr, Option, Some}
use Rattle.std.proofs.Common.{None, is_some, IsTrue, refl, sym, ap, ◌∙◌, arith}
use Rattle.std.proofs.Math.Path.{fun_ext}
use Rattle.std.proofs.Props.{props}
use Rattle.std.proofs.Math.Nat.{pow-suc, div-add-mod', div-mul-le_self, le_of_mul-le-mul_right}
use Rattle.std.proofs.Math.Nat.{lt_of_mul-lt-mul_right, mod-eq_of_lt, mul-le-mul_right}
use Rattle.std.proofs.lemmas.Nat.{div-mul-add, div_below, mod_below}
use Rattle.std.proofs.lemmas.Bool.{and_parts, cases_eq, cases_lt, eq-eqb, eqb-true, ne_eqb, lt-ltb}
use Rattle.std.proofs.lemmas.Bool.{le-ltb, lt-leb, leb-true, true≢false, not-false, not-true}
use Rattle.bittle_bits.specs.Ends.{IsEndIn}
use Rattle.bittle.specs.BitPatterns.{bit_set}
use Rattle.bittle.specs.Orders.{place, read_in}
use Rattle.bittle.specs.PlainSet.{PlainSet, count_below, empty_set, full_set, size, complement}
use Rattle.bittle.specs.PlainSet.{has_changed, lacks, is_in_span, with_span_changed}
use Rattle.bittle.specs.Rows.{with_bit}
use Rattle.bittle.specs.Searches.{NoneIn, PassesOver, TellsGroups}
use Rattle.bittle.specs.Walk.{ones_or_zeros}
use Rattle.bittle.specs.Words.{word_has, word_of}
use Rattle.bittle_bits.proofs.Counts.{count-never, count-others, count-same, count-some}
use Rattle.bittle_bits.proofs.OnesOrZeros.{ones_or_zeros-capacity, ones_or_zeros-word_of}
use Rattle.bittle_bits.proofs.PlaceLemmas.{place_part, place_in_word, place-place}
use Rattle.bittle_bits.proofs.PlainSets.{plain_set, has_with-in, has_without-in}
use Rattle.bittle_bits.proofs.Sizes.{size-complement}
use Rattle.bittle_bits.proofs.Words.{word_has-at, word_ends}
use Rattle.bittle_tiers.specs.Tiers.{uniform_summary, some_in_word, StopsAtBit, Summarizes}
use Rattle.bittle_tiers.specs.Tiers.{SummarizesOutside, can_summarize}

-- `can_summarize` implies that the summary has a bit for each word of the map
pub summary_reaches : (a b : Bool) (c d w : ℕ) → IsTrue (can_summarize a b c d w) → c ≤ d * w
summary_reaches a b c d w h = leb-true c (d * w)
    (and_parts b (nat_le c (d * w)) (and_parts a (b && nat_le c (d * w)) h).1).1

-- the words of two sets are the same, except word k
abbrev pub SameWordsBut : ℕ → PlainSet → PlainSet → ℕ → Type 0
SameWordsBut w s t k = (j : ℕ) → j ≢ k → j * w < s.capacity → word_of w t j ≡ word_of w s j

-- any two proofs that a map may have a summary are equal; so are any two proofs that the summary is
-- right
pub can_one : (can : Bool) → IsProp (IsTrue can)
can_one can = hlevel props

pub tells_one : (ones : Bool) (w : ℕ) (s t : PlainSet) → IsProp (Summarizes ones w s t)
tells_one ones w s t = hlevel props

false_by : (b : Bool) → (b ≡ true → ⊥) → b ≡ false
false_by true h = absurd (h refl)
false_by false h = refl

-- if d words reach the capacity, and word k begins at or below it, k is at most d
pub reaches : (w k c own d : ℕ) → 0 < w → k * w ≤ c → c ≡ own → own ≤ d * w → k ≤ d
reaches w k c own d word within is reach =
    let h : k * w ≤ d * w = omega (arith, within, is, reach) in le_of_mul-le-mul_right h word

-- if word k begins below a capacity of whole words, k is below the number of words
pub word_index : (w k c : ℕ) → 0 < w → (words : ℕ) × (c ≡ words * w) → k * w < c → k < c / w
word_index w k c word whole within = elim (cases_lt k (c / w)) [
  | inl l ↦ l
  | inr g ↦ let up : c / w * w ≤ k * w = mul-le-mul_right w g in
      absurd (omega (
        arith,
        up,
        div-add-mod' c w,
        mod_below c w word,
        word_ends w k c whole within,
      ))
]

-- a summary with at least as many numbers as there are words reaches the capacity
pub whole_reaches : (w c d : ℕ) → 0 < w → (words : ℕ) × (c ≡ words * w) → c / w ≤ d → c ≤ d * w
whole_reaches w c d word whole enough = elim (cases_lt (d * w) c) [
  | inl l ↦ absurd (omega (arith, word_index w d c word whole l, enough))
  | inr g ↦ g
]

-- the word of an index below a capacity begins below that capacity
pub index_word : (w i c : ℕ) → i < c → i / w * w < c
index_word w i c below = omega (arith, div-mul-le_self i w, below)

-- a number is not in a span unless it is both at or past its start and before its end
outside_span : (from to p : ℕ) → (from ≤ p → p < to → ⊥) → is_in_span from to p ≡ false
outside_span from to p out = elim (cases_lt p from) [
  | inl l ↦ ap (λ b. b && nat_lt p to) (lt-leb from p l)
  | inr g ↦ elim (cases_lt p to) [
    | inl l ↦ absurd (out g l)
    | inr h ↦ ap (λ b. nat_le from p && b) (le-ltb p to h) ∙ and_false (nat_le from p)
  ]
]
  where
    and_false : (b : Bool) → b && false ≡ false
    and_false true = refl
    and_false false = refl

-- of two numbers, the greater one is in the same word or in a later word
div_up : (w a b : ℕ) → 0 < w → a ≤ b → a / w ≤ b / w
div_up w a b word h = elim (cases_lt (b / w) (a / w)) [
  | inl l ↦ let up : suc (b / w) * w ≤ a / w * w = mul-le-mul_right w l in
      absurd (omega (arith, up, div-mul-le_self a w, div-add-mod' b w, mod_below b w word, h))
  | inr g ↦ g
]

-- a change of an empty span changes nothing
pub span_empty : (change : Bool → Bool) (s : PlainSet) (from to : ℕ) → from ≡ to →
    s ≡ with_span_changed change s from to
unfolding has_changed
span_empty change s from to e = ap (plain_set s.capacity) (fun_ext λ p.
    rw (outside_span from to p (λ lo hi. absurd (omega (arith, e)))) refl)

-- a capacity of whole words is the number of its words times their width
pub words_counted : (bits width w c : ℕ) → 0 < w → bits ≡ c → width ≡ w →
    (words : ℕ) × (c ≡ words * w) → c ≡ bits / width * w
words_counted bits width w c word is wide whole = rw (is, wide) (whole_words c w word whole)
  where
    whole_words : (c w : ℕ) → 0 < w → (words : ℕ) × (c ≡ words * w) → c ≡ c / w * w
    whole_words c w word whole = elim (cases_lt (c / w * w) c) [
      | inl l ↦ absurd (omega (arith, word_index w (c / w) c word whole l))
      | inr g ↦ omega (arith, g, div-mul-le_self c w)
    ]

before_last : (p to : ℕ) → p < to → p ≤ to - 1
before_last p to h = omega (arith, h)

-- if the count of the numbers below c that pass a test is 0, none of them passes it
none_passes : (p : ℕ → Bool) (c i : ℕ) → count_below c p ≡ 0 → i < c → p i ≡ false
none_passes p c i none l =
    false_by (p i) (λ e. absurd (omega (arith, count-some c i p l e, none)))

-- if `some_in_word` is false, no bit of the word is of the kind
pub none_in_word : (ones : Bool) (w k : ℕ) (s : PlainSet) → k * w + w ≤ s.capacity →
    some_in_word ones w s k ≡ false → NoneIn (ones_or_zeros ones s) (k * w) (k * w + w)
unfolding some_in_word
none_in_word ones w k s within told = λ n lo hi.
    let word = ones_or_zeros-word_of ones w k s within in
    let empty : size (word_of w (ones_or_zeros ones s) k) ≡ 0 =
    ap size (sym word) ∙ eqb-true _ 0 (not-false _ told) in
    let back : k * w + (n - k * w) ≡ n = omega arith in
    rw back at (sym (word_has-at w (ones_or_zeros ones s) k (n - k * w) (omega arith))
    ∙ none_passes (word_has w (ones_or_zeros ones s) k) w (n - k * w) empty (omega arith))

-- if two words are equal, both have a bit of the kind or neither has
pub some_in_same : (ones : Bool) (w k : ℕ) (s t : PlainSet) → word_of w s k ≡ word_of w t k →
    some_in_word ones w s k ≡ some_in_word ones w t k
unfolding some_in_word
some_in_same ones w k s t same = ap (λ u. not (size (ones_or_zeros ones u) == 0)) same

-- a number past the capacity is no bit of either kind
none_past : (ones : Bool) (s : PlainSet) (i : ℕ) → s.capacity ≤ i → s.has i ≡ false →
    (ones_or_zeros ones s).has i ≡ false
unfolding lacks
none_past true s i far none = none
none_past false s i far none = rw (le-ltb i s.capacity far) refl

-- a group of the next level has 64 times as many words
group_up : (k above : ℕ) → k * 64 ^ suc above ≡ k * 64 ^ above * 64
group_up k above = ap (λ p. k * p) (pow-suc 64 above) ∙ omega arith

-- what a summary t of the set s tells of the words of s
module _ (ones : Bool) (w : ℕ) (s t : PlainSet) (word : 0 < w)
    (whole : (words : ℕ) × (s.capacity ≡ words * w)) (tells : Summarizes ones w s t) where
  -- words whose numbers are not in the summary have no bit of the kind
  none_in_words : (low high : ℕ) → high * w ≤ s.capacity → NoneIn t low high →
      NoneIn (ones_or_zeros ones s) (low * w) (high * w)
  none_in_words low high within none = λ n lo hi.
      let k = n / w in
      let split = div-add-mod' n w in
      let part = mod_below n w word in
      let below : k < high = div_below n w high word hi in
      let up : suc k * w ≤ high * w = mul-le-mul_right w below in
      let from : low ≤ k = elim (cases_lt k low) [
        | inl l ↦ let over : suc k * w ≤ low * w = mul-le-mul_right w l in
            absurd (omega (arith, over, lo, split, part))
        | inr g ↦ g
      ] in
      let starts : k * w < s.capacity = omega (arith, up, within, word) in
      none_in_word ones w k s (omega (arith, up, within))
      (sym (tells k starts) ∙ none k from below) n
      (omega (arith, split)) (omega (arith, split, part))

  -- `none_in_words` also if some of the words are past the set
  none_in_any : ((i : ℕ) → s.capacity ≤ i → s.has i ≡ false) → (low high : ℕ) →
      NoneIn t low high → NoneIn (ones_or_zeros ones s) (low * w) (high * w)
  none_in_any past low high none = λ n lo hi. elim (cases_lt n s.capacity) [
    | inl l ↦
        let k = n / w in
        let split = div-add-mod' n w in
        let part = mod_below n w word in
        let below : k < high = div_below n w high word hi in
        let from : low ≤ k = elim (cases_lt k low) [
          | inl l ↦ let over : suc k * w ≤ low * w = mul-le-mul_right w l in
              absurd (omega (arith, over, lo, split, part))
          | inr g ↦ g
        ] in
        let starts : k * w < s.capacity = omega (arith, l, split) in
        none_in_word ones w k s (word_ends w k s.capacity whole starts)
        (sym (tells k starts) ∙ none k from below) n
        (omega (arith, split)) (omega (arith, split, part))
    | inr g ↦ none_past ones s n g (past n g)
  ]

  -- if the summary's words have 64 bits, its word n tells which of 64 words of the set have a bit
  -- of the kind
  pub tells_by_word : ((i : ℕ) → s.capacity ≤ i → s.has i ≡ false) → (level n d : ℕ) →
      level ≡ 0 → bit_set 64 d ≡ word_of 64 t n →
      TellsGroups (64 ^ level) w (ones_or_zeros ones s) n d
  tells_by_word past level n d base is = rw base (λ i within unset.
      let e : 64 * n + i ≡ (64 * n + i) * 1 = omega arith in
      let f : 64 * n + i + 1 ≡ (64 * n + i + 1) * 1 = omega arith in
      let here : t.has (n * 64 + i) ≡ false = sym (word_has-at 64 t n i within)
      ∙ sym (ap (λ (u : PlainSet). u.has i) is) ∙ unset in
      none_in_any past ((64 * n + i) * 1) ((64 * n + i + 1) * 1) (λ k lo hi.
      let same : k ≡ n * 64 + i = omega (arith, lo, hi) in rw same here))

  -- groups past the last word of the summary have no bit of the kind
  pub tells_past : ((i : ℕ) → s.capacity ≤ i → s.has i ≡ false) → (level n c : ℕ) →
      level ≡ 0 → s.capacity ≤ c * w → (words : ℕ) × (c ≡ words * 64) → c / 64 ≤ n →
      (d : ℕ) → TellsGroups (64 ^ level) w (ones_or_zeros ones s) n d
  tells_past past level n c base reach all far d = rw base (λ i within unset k lo hi.
      let up : c * w ≤ (64 * n + i) * 1 * w =
      mul-le-mul_right w (omega (arith, all.1, far)) in
      let out : s.capacity ≤ k = omega (arith, reach, up, lo) in
      none_past ones s k out (past k out))

  -- if d tells of groups of the summary's words at one level, it tells of groups of the set's words
  -- at the next level
  pub tells_by_summary : ((i : ℕ) → s.capacity ≤ i → s.has i ≡ false) → (v level above n d : ℕ) →
      v ≡ 64 → level ≡ suc above → TellsGroups (64 ^ above) v t n d →
      TellsGroups (64 ^ level) w (ones_or_zeros ones s) n d
  tells_by_summary past v level above n d wide is told = rw is (λ i within unset.
      let e = group_up (64 * n + i) above in
      let f = group_up (64 * n + i + 1) above in
      none_in_any past ((64 * n + i) * 64 ^ suc above) ((64 * n + i + 1) * 64 ^ suc above)
      (rw (e, f) ((rw wide at told) i within unset)))

  -- a member of the summary is the number of a word with a bit of the kind
  some_told : (k high : ℕ) → high * w ≤ s.capacity → k < high → t.has k ≡ true →
      some_in_word ones w s k ≡ true
  some_told k high within below told =
      let up : suc k * w ≤ high * w = mul-le-mul_right w below in
      sym (tells k (omega (arith, up, within, word))) ∙ told

  -- a search of the summary passes over the words before the member that it finds
  pub passes_some : (front : Bool) (low high k : ℕ) → high * w ≤ s.capacity →
      IsEndIn front t low high (Some k) →
      PassesOver front w (ones_or_zeros ones s) low high (cond front k (k + 1))
  passes_some true low high k within found =
      let low_enough : k * w ≤ high * w = mul-le-mul_right w (omega (arith, found.1)) in (
        found.0,
        omega (arith, found.1),
        none_in_words low k (omega (arith, low_enough, within)) found.3,
      )
  passes_some false low high k within found =
      (omega (arith, found.0), omega (arith, found.1), none_in_words (k + 1) high within found.3)

  -- the search stops at a word with a bit of the kind
  pub stops_some : (front : Bool) (low high k : ℕ) → high * w ≤ s.capacity →
      IsEndIn front t low high (Some k) → StopsAtBit front ones w s low high (cond front k (k + 1))
  stops_some true low high k within found = λ _. some_told k high within found.1 found.2
  stops_some false low high k within found = λ _.
      let last : k + 1 - 1 ≡ k = omega arith in rw last (some_told k high within found.1 found.2)

  pub passes_none : (front : Bool) (low high : ℕ) → low ≤ high → high * w ≤ s.capacity →
      IsEndIn front t low high None →
      PassesOver front w (ones_or_zeros ones s) low high (cond front high low)
  passes_none true low high order within found =
      (order, omega arith, none_in_words low high within found)
  passes_none false low high order within found =
      (omega arith, order, none_in_words low high within found)

  pub stops_none : (front : Bool) (low high : ℕ) →
      StopsAtBit front ones w s low high (cond front high low)
  stops_none true low high = λ h. absurd (omega (arith, h))
  stops_none false low high = λ h. absurd (omega (arith, h))

  -- if the summary has no member, the set has no bit of the kind
  none_at_all : (words : ℕ) → s.capacity ≡ words * w → NoneIn t 0 words →
      size (ones_or_zeros ones s) ≡ 0
  none_at_all words all none =
      let size_is = ones_or_zeros-capacity ones s in
      let rest = none_in_words 0 words (omega (arith, all)) none in
      count-same (ones_or_zeros ones s).capacity (ones_or_zeros ones s).has (λ _. false)
      (λ k l. rest k (omega arith) (omega (arith, l, size_is, all)))
      ∙ count-never (ones_or_zeros ones s).capacity

  -- if the summary has a member, the set has a bit of the kind
  some_at_all : (k : ℕ) → k * w < s.capacity → t.has k ≡ true →
      size (ones_or_zeros ones s) ≢ 0
  unfolding some_in_word
  some_at_all k within told = λ none.
      let ends = word_ends w k s.capacity whole within in
      let size_is = ones_or_zeros-capacity ones s in
      let empty : size (word_of w (ones_or_zeros ones s) k) ≡ 0 =
      count-same w (word_has w (ones_or_zeros ones s) k) (λ _. false)
      (λ i l. word_has-at w (ones_or_zeros ones s) k i l
      ∙ none_passes (ones_or_zeros ones s).has (ones_or_zeros ones s).capacity (k * w + i) none
      (omega (arith, ends, l, size_is)))
      ∙ count-never w in
      let nothing : size (ones_or_zeros ones (word_of w s k)) ≡ 0 =
      ap size (ones_or_zeros-word_of ones w k s ends) ∙ empty in
      true≢false (sym told ∙ tells k within ∙ ap not (eq-eqb _ 0 nothing))

  -- a search of the whole summary finds no member exactly if the set has no bit of the kind
  pub none_exactly : (words : ℕ) → s.capacity ≡ words * w → (r : Option ℕ) (b : Bool) →
      is_some r ≡ not b → IsEndIn true t 0 words r → b ≡ (size (ones_or_zeros ones s) == 0)
  none_exactly words all None b e found =
      not-false b (sym e) ∙ sym (eq-eqb _ 0 (none_at_all words all found))
  none_exactly words all (Some k) b e found =
      let up : (k + 1) * w ≤ words * w = mul-le-mul_right w (omega (arith, found.1)) in
      not-true b (sym e)
      ∙ sym (ne_eqb _ 0 (some_at_all k (omega (arith, up, all, word)) found.2))

-- a set lacks no number exactly if its size is its capacity
pub full_where_none_lacks : (s : PlainSet) →
    (size (complement s) == 0) ≡ (size s == s.capacity)
full_where_none_lacks s = elim (cases_eq (size (complement s)) 0) [
  | inl e ↦ eq-eqb _ 0 e ∙ sym (eq-eqb (size s) s.capacity (omega (arith, e, size-complement s)))
  | inr n ↦ ne_eqb _ 0 n ∙ sym (ne_eqb (size s) s.capacity
      (λ e. n (omega (arith, e, size-complement s))))
]

-- a change of a span, in one order, keeps each word except those that have a bit of the span
pub same_around : (change : Bool → Bool) (m : Bool) (w from to : ℕ) (s t : PlainSet) → 0 < w →
    from < to → read_in m w t ≡ with_span_changed change (read_in m w s) from to → (j : ℕ) →
    (from / w ≤ j → j ≤ (to - 1) / w → ⊥) → word_of w t j ≡ word_of w s j
unfolding word_has has_changed
same_around change m w from to s t word some changed = λ j outside.
    ap (plain_set w) (fun_ext λ n. elim (cases_lt n w) [
      | inl l ↦ rw (lt-ltb n w l) (same j n outside l)
      | inr g ↦ rw (le-ltb n w g) refl
    ])
  where
    same : (j n : ℕ) → (from / w ≤ j → j ≤ (to - 1) / w → ⊥) → n < w →
        t.has (j * w + n) ≡ s.has (j * w + n)
    same j n outside l =
        let one : j * (1 * w) ≡ j * w = omega arith in
        let b : n < 1 * w = omega arith in
        let moved : place m w (j * w + n) ≡ j * w + place m w n =
        rw one at (place_part m w 1 j n word b) in
        let low = place_in_word m w n l in
        let p = place m w (j * w + n) in
        let back = place-place m w (j * w + n) word in
        let quotient : p / w ≡ j = ap (λ q. q / w) moved ∙ div-mul-add j w (place m w n) low in
        let apart : is_in_span from to p ≡ false = outside_span from to p (λ lo hi.
        outside (rw quotient at (div_up w from p word lo)) (rw quotient at (div_up w p (to - 1) word
        (before_last p to hi)))) in
        ap t.has (sym back) ∙ ap (λ u. u.has p) changed
        ∙ rw apart (ap s.has back)

-- after a bit is put at an index, the set has that bit there (`bit_at`, `bit_here`) and all other
-- bits as before (`bit_elsewhere`)
bit_at : (v : Bool) (s : PlainSet) (i at : ℕ) → 0 < s.capacity → at ≡ i % s.capacity →
    (with_bit v s i).has at ≡ v
bit_at true s i at some is = ap (λ p. p at) (has_with-in s s.capacity i refl some)
    ∙ rw (eq-eqb at (i % s.capacity) is) refl
bit_at false s i at some is = ap (λ p. p at) (has_without-in s s.capacity i refl some)
    ∙ rw (eq-eqb at (i % s.capacity) is) refl

pub bit_here : (v : Bool) (s : PlainSet) (k : ℕ) → k < s.capacity →
    (with_bit v s k).has k ≡ v
bit_here v s k h = bit_at v s k k (omega (arith, h)) (sym (mod-eq_of_lt h))

pub bit_elsewhere : (v : Bool) (s : PlainSet) (i j : ℕ) → 0 < s.capacity → j ≢ i % s.capacity →
    (with_bit v s i).has j ≡ s.has j
bit_elsewhere true s i j some other = ap (λ p. p j) (has_with-in s s.capacity i refl some)
    ∙ rw (ne_eqb j (i % s.capacity) other) refl
bit_elsewhere false s i j some other = ap (λ p. p j) (has_without-in s s.capacity i refl some)
    ∙ rw (ne_eqb j (i % s.capacity) other) refl

-- a bit that is put at an index, in one order, changes no word but the word of that index
pub same_words : (v m : Bool) (w i at : ℕ) (s t : PlainSet) → 0 < w → 0 < s.capacity →
    at ≡ i % s.capacity → read_in m w t ≡ with_bit v (read_in m w s) i →
    SameWordsBut w s t (at / w)
unfolding word_has
same_words v m w i at s t word some is put = λ j other within.
    ap (plain_set w) (fun_ext λ n. elim (cases_lt n w) [
      | inl l ↦ rw (lt-ltb n w l) (same j n other l)
      | inr g ↦ rw (le-ltb n w g) refl
    ])
  where
    same : (j n : ℕ) → j ≢ at / w → n < w → t.has (j * w + n) ≡ s.has (j * w + n)
    same j n other l =
        let one : j * (1 * w) ≡ j * w = omega arith in
        let b : n < 1 * w = omega arith in
        let moved : place m w (j * w + n) ≡ j * w + place m w n =
        rw one at (place_part m w 1 j n word b) in
        let low = place_in_word m w n l in
        let p = place m w (j * w + n) in
        let back = place-place m w (j * w + n) word in
        let apart : p ≢ i % s.capacity = λ e. other (sym (div-mul-add j w (place m w n) low)
        ∙ ap (λ q. q / w) (sym moved ∙ e ∙ sym is)) in
        ap t.has (sym back) ∙ ap (λ u. u.has p) put
        ∙ bit_elsewhere v (read_in m w s) i p some apart ∙ ap s.has back

-- after a bit is put at an index, in one order, the word of that index has a bit of the bit's kind
pub some_put : (v m : Bool) (w i at : ℕ) (s t : PlainSet) → 0 < w →
    (words : ℕ) × (s.capacity ≡ words * w) → t.capacity ≡ s.capacity → at < s.capacity →
    at ≡ i % s.capacity → read_in m w t ≡ with_bit v (read_in m w s) i →
    some_in_word v w t (at / w) ≡ true
unfolding lacks
some_put v m w i at s t word whole size below is put = by_none _ (λ none.
    let k = at / w in
    let n = at % w in
    let low = mod_below at w word in
    let split : k * (1 * w) + n ≡ at = omega (arith, div-add-mod' at w) in
    let b : n < 1 * w = omega (arith, low) in
    let moved : place m w at ≡ k * (1 * w) + place m w n =
    rw split at (place_part m w 1 k n word b) in
    let inside = place_in_word m w n low in
    let ends = word_ends w k s.capacity whole (index_word w at s.capacity below) in
    let bit : t.has (place m w at) ≡ v = ap (λ u. u.has at) put
    ∙ bit_at v (read_in m w s) i at (omega (arith, below)) is in
    true≢false (sym (of_kind v t (place m w at) (omega (arith, moved, inside, ends, size)) bit)
    ∙ none_in_word v w k t (omega (arith, ends, size)) none (place m w at)
    (omega (arith, moved)) (omega (arith, moved, inside))))
  where
    by_none : (b : Bool) → (b ≡ false → ⊥) → b ≡ true
    by_none true none = refl
    by_none false none = absurd (none refl)

    of_kind : (v : Bool) (t : PlainSet) (p : ℕ) → p < t.capacity → t.has p ≡ v →
        (ones_or_zeros v t).has p ≡ true
    of_kind true t p within bit = bit
    of_kind false t p within bit = rw (lt-ltb p t.capacity within, bit) refl

-- if one word changes and the summary is updated for it, the summary is right for each word
pub renewed : (ones : Bool) (w k : ℕ) (s t u v : PlainSet) → Summarizes ones w s u →
    SameWordsBut w s t k → t.capacity ≡ s.capacity → v.has k ≡ some_in_word ones w t k →
    ((j : ℕ) → j ≢ k → v.has j ≡ u.has j) → Summarizes ones w t v
renewed ones w k s t u v tells same size here others = λ j within. elim (cases_eq j k) [
  | inl e ↦ rw e here
  | inr n ↦ let inside : j * w < s.capacity = omega (arith, within, size) in
      others j n ∙ tells j inside ∙ some_in_same ones w j s t (sym (same j n inside))
]

-- after a change of a span, the old summary is right except for the words that have a bit of the
-- span
pub tells_outside : (ones : Bool) (change : Bool → Bool) (m : Bool) (w from to : ℕ)
    (s t u : PlainSet) → 0 < w → from < to →
    read_in m w t ≡ with_span_changed change (read_in m w s) from to → t.capacity ≡ s.capacity →
    Summarizes ones w s u → SummarizesOutside ones w t u (from / w) ((to - 1) / w + 1)
tells_outside ones change m w from to s t u word some changed size tells = λ j out within.
    tells j (omega (arith, within, size)) ∙ some_in_same ones w j s t (sym
    (same_around change m w from to s t word some changed j
    (λ lo hi. absurd (omega (arith, hi, out lo)))))

-- how many bits of a kind each word of an empty set has, and each word of a full set
module _ (w c k : ℕ) (word : 0 < w) (whole : (words : ℕ) × (c ≡ words * w)) (within : k * w < c)
  where
    empty_word : size (word_of w (empty_set c) k) ≡ 0
    empty_word = count-same w (word_has w (empty_set c) k) (λ _. false)
        (λ i l. word_has-at w (empty_set c) k i l) ∙ count-never w

    full_word : size (word_of w (full_set c) k) ≡ w
    full_word =
        let ends = word_ends w k c whole within in
        let each = count-same w (word_has w (full_set c) k) (λ _. true)
        (λ i l. word_has-at w (full_set c) k i l ∙ lt-ltb (k * w + i) c (omega (arith, ends, l))) in
        each ∙ omega (arith, count-others w (λ _. false), count-never w)

    pub some_in_empty : (ones : Bool) → some_in_word ones w (empty_set c) k ≡ not ones
    unfolding some_in_word
    some_in_empty true = ap not (eq-eqb _ 0 empty_word)
    some_in_empty false = ap not (ne_eqb _ 0 (λ e.
        absurd (omega (arith, e, size-complement (word_of w (empty_set c) k), empty_word, word))))

    pub some_in_full : (ones : Bool) → some_in_word ones w (full_set c) k ≡ ones
    unfolding some_in_word
    some_in_full true = ap not (ne_eqb _ 0 (λ e. absurd (omega (arith, e, full_word, word))))
    some_in_full false = ap not (eq-eqb _ 0
        (omega (arith, size-complement (word_of w (full_set c) k), full_word)))

below_of : (w c d k : ℕ) → k * w < c → c ≤ d * w → k < d
below_of w c d k within reach =
    let h : k * w < d * w = omega (arith, within, reach) in lt_of_mul-lt-mul_right w h

-- a uniform summary has each number or none
uniform_has : (all : Bool) (d k : ℕ) → k < d → (uniform_summary all d).has k ≡ all
uniform_has true d k h = lt-ltb k d h
uniform_has false d k h = refl

-- the uniform summaries of an empty map and of a full map are right
pub empty_tells : (ones : Bool) (w c d : ℕ) (s u : PlainSet) → 0 < w →
    (words : ℕ) × (c ≡ words * w) → c ≤ d * w → s ≡ empty_set c →
    u ≡ uniform_summary (not ones) d → Summarizes ones w s u
empty_tells ones w c d s u word whole reach is told = rw (is, told) (λ k within.
    uniform_has (not ones) d k (below_of w c d k within reach)
    ∙ sym (some_in_empty w c k word whole within ones))

pub full_tells : (ones : Bool) (w c d : ℕ) (s u : PlainSet) → 0 < w →
    (words : ℕ) × (c ≡ words * w) → c ≤ d * w → s ≡ full_set c →
    u ≡ uniform_summary ones d → Summarizes ones w s u
full_tells ones w c d s u word whole reach is told = rw (is, told) (λ k within.
    uniform_has ones d k (below_of w c d k within reach)
    ∙ sym (some_in_full w c k word whole within ones))
