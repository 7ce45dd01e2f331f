-- Sets that are rotated, first by whole words and then by bits, and the words that are written.
use Rattle.std.proofs.Common.{◌≡◌, ◌≢◌, ℕ, ◌+◌, ◌-◌, ◌*◌, ◌/◌, ◌%◌, ◌<◌, ◌≤◌, ◌⊎◌, Bool, false}
use Rattle.std.proofs.Common.{cond, nat_lt, nat_le, ◌==◌, inl, inr, refl, sym, ap, ◌∙◌, arith}
use Rattle.std.proofs.Math.Path.{fun_ext}
use Rattle.std.proofs.Math.Nat.{add-mod-mod, mod-eq_of_lt, mul-le-mul_right, lt_of_mul-lt-mul_right}
use Rattle.std.proofs.lemmas.Nat.{div-add-mod', mod_below}
use Rattle.std.proofs.lemmas.Bool.{cases_eq, cases_lt, eq-eqb, ne_eqb, lt-ltb, le-ltb, lt-leb}
use Rattle.std.proofs.lemmas.Bool.{le-leb}
use Rattle.bittle.specs.BitPatterns.{bit_set}
use Rattle.bittle.specs.Orders.{read_in}
use Rattle.bittle.specs.PlainSet.{PlainSet, contains, is_in_span}
use Rattle.bittle.specs.Words.{word_of, ReplacesWord}
use Rattle.bittle_bits.proofs.PlainSets.{members-past, plain_set}
use Rattle.bittle_bits.proofs.Spans.{is_in_span-inside, is_in_span-outside}
use Rattle.bittle_bits.proofs.Words.{digit_at, same_word}
use Rattle.bittle.proofs.CallerSets.{contains_within}
use Rattle.bittle_ext.specs.Rotations.{exchanged, has_rotated, has_shifted_down, HasWordsOf}
use Rattle.bittle_ext.specs.Rotations.{mirrored_within, rotated_down, shifted_down, shifted_up}
use Rattle.bittle_ext.specs.Rotations.{IsDistance, IsWindow, IsWordFrom}
use Rattle.bittle_ext.proofs.RotatedSets.{contains_as, contains_past, down-inside, rotated-below}
use Rattle.bittle_ext.proofs.RotatedSets.{rotated-past, rotated_from, rotated_word, up-inside}
use Rattle.bittle_ext.proofs.RotatedSets.{up-past, window_from, word_within}
use Rattle.bittle_ext.proofs.WordsReplaced.{adds_upward, all_replaced, more_replaced, none_replaced}
use Rattle.bittle_ext.proofs.WordsReplaced.{replaced_where, rest_alike, AddsWord}

-- which number stands where i and j have changed places
exchanged-second : (i j : ℕ) → exchanged i j j ≡ i
unfolding exchanged
exchanged-second i j = ap (λ b. cond b i (cond (j == i) j j)) (eq-eqb j j refl)

exchanged-first : (i j : ℕ) → i ≢ j → exchanged i j i ≡ j
unfolding exchanged
exchanged-first i j n = ap (λ b. cond b i (cond (i == i) j i)) (ne_eqb i j n)
    ∙ ap (λ b. cond b j i) (eq-eqb i i refl)

exchanged-other : (i j k : ℕ) → k ≢ i → k ≢ j → exchanged i j k ≡ k
unfolding exchanged
exchanged-other i j k n o = ap (λ b. cond b i (cond (k == i) j k)) (ne_eqb k j o)
    ∙ ap (λ b. cond b j k) (ne_eqb k i n)

-- a number of a span that is mirrored within it, and one that is not
mirrored-inside : (from to k : ℕ) → from ≤ k → k < to → mirrored_within from to k
    ≡ from + to - 1 - k
unfolding mirrored_within
mirrored-inside from to k low high =
    ap (λ b. cond b (from + to - 1 - k) k) (is_in_span-inside from to k low high)

mirrored-outside : (from to k : ℕ) → (k < from) ⊎ (to ≤ k) → mirrored_within from to k ≡ k
unfolding mirrored_within
mirrored-outside from to k out =
    ap (λ b. cond b (from + to - 1 - k) k) (is_in_span-outside from to k out)

-- the number that k becomes once the first n and the last n numbers of from..to are mirrored
abbrev pub ends_mirrored : ℕ → ℕ → ℕ → ℕ → ℕ
ends_mirrored from to n k = cond (is_in_span (from + n) (to - n) k) k (mirrored_within from to k)

ends-inside : (from to n k : ℕ) → from + n ≤ k → k < to - n → ends_mirrored from to n k ≡ k
ends-inside from to n k low high =
    ap (λ b. cond b k (mirrored_within from to k))
    (is_in_span-inside (from + n) (to - n) k low high)

ends-outside : (from to n k : ℕ) → (k < from + n) ⊎ (to - n ≤ k) →
    ends_mirrored from to n k ≡ mirrored_within from to k
ends-outside from to n k out =
    ap (λ b. cond b k (mirrored_within from to k)) (is_in_span-outside (from + n) (to - n) k out)

-- at first none has
ends_none : (from to k : ℕ) → ends_mirrored from to 0 k ≡ k
ends_none from to k = elim (cases_lt k from) [
  | inl l ↦ ends-outside from to 0 k (inl (omega (arith, l))) ∙ mirrored-outside from to k (inl l)
  | inr g ↦ elim (cases_lt k to) [
    | inl l ↦ ends-inside from to 0 k (omega (arith, g)) (omega (arith, l))
    | inr h ↦ ends-outside from to 0 k (inr (omega (arith, h))) ∙ mirrored-outside from to k (inr h)
  ]
]

-- one more of each end is mirrored by an exchange
ends_more : (from to n k : ℕ) → from + n + 1 ≤ to - 1 - n →
    ends_mirrored from to n (exchanged (from + n) (to - 1 - n) k) ≡ ends_mirrored from to (n + 1) k
ends_more from to n k h =
    let i = from + n in
    let j = to - 1 - n in
    elim (cases_eq k j) [
      | inl e ↦ ap (λ k. ends_mirrored from to n (exchanged i j k)) e
          ∙ ap (ends_mirrored from to n) (exchanged-second i j)
          ∙ ends-inside from to n i (omega arith) (omega (arith, h))
          ∙ sym (ends-outside from to (n + 1) k (inr (omega (arith, e)))
          ∙ mirrored-inside from to k (omega (arith, e, h)) (omega (arith, e, h))
          ∙ omega (arith, e, h))
      | inr o ↦ elim (cases_eq k i) [
        | inl e ↦ ap (λ k. ends_mirrored from to n (exchanged i j k)) e
            ∙ ap (ends_mirrored from to n) (exchanged-first i j (λ p. omega (arith, p, h)))
            ∙ ends-inside from to n j (omega (arith, h)) (omega (arith, h))
            ∙ sym (ends-outside from to (n + 1) k (inl (omega (arith, e)))
            ∙ mirrored-inside from to k (omega (arith, e, h)) (omega (arith, e, h))
            ∙ omega (arith, e, h))
        | inr p ↦ ap (ends_mirrored from to n) (exchanged-other i j k p o)
            ∙ elim (cases_lt k (i + 1)) [
              | inl l ↦ ends-outside from to n k (inl (omega (arith, l, p)))
                  ∙ sym (ends-outside from to (n + 1) k (inl (omega (arith, l))))
              | inr g ↦ elim (cases_lt k j) [
                | inl l ↦ ends-inside from to n k (omega (arith, g)) (omega (arith, l))
                    ∙ sym (ends-inside from to (n + 1) k (omega (arith, g)) (omega (arith, l)))
                | inr f ↦ ends-outside from to n k (inr (omega (arith, f, o)))
                    ∙ sym (ends-outside from to (n + 1) k (inr (omega (arith, f))))
              ]
            ]
      ]
    ]

-- when half of them have, all are
ends_all : (from to n k : ℕ) → to - n ≤ from + n + 1 → n + n ≤ to - from →
    ends_mirrored from to n k ≡ mirrored_within from to k
ends_all from to n k h f = elim (cases_lt k (from + n)) [
  | inl l ↦ ends-outside from to n k (inl l)
  | inr g ↦ elim (cases_lt k (to - n)) [
    | inl l ↦ ends-inside from to n k g l
        ∙ sym (mirrored-inside from to k (omega (arith, g)) (omega (arith, l))
        ∙ omega (arith, g, l, h, f))
    | inr o ↦ ends-outside from to n k (inr o)
  ]
]

-- two words that are each written in the place of the other are exchanged
pub words_exchanged : (m : Bool) (w i j a b : ℕ) (s r t : PlainSet) → 0 < w → i * w < s.capacity →
    j * w < s.capacity → bit_set w a ≡ word_of w s i → bit_set w b ≡ word_of w s j →
    ReplacesWord w s i (bit_set w b) r → ReplacesWord w r j (bit_set w a) t →
    HasWordsOf w (exchanged i j) (read_in m w s) (read_in m w t)
words_exchanged m w i j a b s r t word low high first second one two = record {
  capacity = two.capacity ∙ one.capacity;
  words = λ k o h l. elim (cases_eq k j) [
    | inl e ↦ ap (λ k. (read_in m w t).has (k * w + o)) e
        ∙ sym (digit_at m w j t a word (sym two.replaced) o l)
        ∙ digit_at m w i s a word first o l
        ∙ ap (λ k. (read_in m w s).has (k * w + o))
        (sym (ap (exchanged i j) e ∙ exchanged-second i j))
    | inr n ↦
        same_word m w k t r word (two.others k n (omega (arith, h, one.capacity))) o l
        ∙ elim (cases_eq k i) [
          | inl e ↦ ap (λ k. (read_in m w r).has (k * w + o)) e
              ∙ sym (digit_at m w i r b word (sym one.replaced) o l)
              ∙ digit_at m w j s b word second o l
              ∙ ap (λ k. (read_in m w s).has (k * w + o))
              (sym (ap (exchanged i j) e ∙ exchanged-first i j (λ p. n (e ∙ p))))
          | inr p ↦ same_word m w k r s word (one.others k p h) o l
              ∙ ap (λ k. (read_in m w s).has (k * w + o)) (sym (exchanged-other i j k p n))
        ]
  ];
}

-- before any exchange, no word has moved
pub none_reversed : (w from to : ℕ) (s : PlainSet) → HasWordsOf w (ends_mirrored from to 0) s s
none_reversed w from to s = record {
  capacity = refl;
  words = λ k o h l. ap (λ k. s.has (k * w + o)) (sym (ends_none from to k));
}

-- one more exchange mirrors one more word at each end
pub more_reversed : (w from to n : ℕ) (s r t : PlainSet) → from + n + 1 ≤ to - 1 - n →
    to * w ≤ s.capacity → HasWordsOf w (ends_mirrored from to n) s r →
    HasWordsOf w (exchanged (from + n) (to - 1 - n)) r t →
    HasWordsOf w (ends_mirrored from to (n + 1)) s t
more_reversed w from to n s r t h within before is =
    let i = from + n in
    let j = to - 1 - n in
    let low : (i + 1) * w ≤ to * w = mul-le-mul_right w (omega (arith, h)) in
    let high : (j + 1) * w ≤ to * w = mul-le-mul_right w (omega (arith, h)) in
    record {
      capacity = is.capacity ∙ before.capacity;
      words = λ k o b l. is.words k o (omega (arith, b, before.capacity)) l
          ∙ before.words (exchanged i j k) o (elim (cases_eq k j) [
            | inl e ↦ rw (e, exchanged-second i j) (omega (arith, low, within, l))
            | inr n' ↦ elim (cases_eq k i) [
              | inl e ↦ rw (e, exchanged-first i j (λ p. omega (arith, p, h)))
                  (omega (arith, high, within, l))
              | inr p ↦ rw (exchanged-other i j k p n') b
            ]
          ]) l
          ∙ ap (λ k. s.has (k * w + o)) (ends_more from to n k h);
    }

-- after the last exchange, the words from..to are reversed
pub all_reversed : (w from to n : ℕ) (s t : PlainSet) → to - n ≤ from + n + 1 →
    n + n ≤ to - from → HasWordsOf w (ends_mirrored from to n) s t →
    HasWordsOf w (mirrored_within from to) s t
all_reversed w from to n s t h f is = record {
  capacity = is.capacity;
  words = λ k o b l. is.words k o b l ∙ ap (λ k. s.has (k * w + o)) (ends_all from to n k h f);
}

-- a number below a bound, mirrored within a span that ends below it, stays below it
mirrored_below : (from to words k : ℕ) → to ≤ words → k < words → mirrored_within from to k < words
mirrored_below from to words k h l = elim (cases_lt k from) [
  | inl b ↦ rw (mirrored-outside from to k (inl b)) l
  | inr g ↦ elim (cases_lt k to) [
    | inl b ↦ rw (mirrored-inside from to k g b) (omega (arith, g, b, h))
    | inr o ↦ rw (mirrored-outside from to k (inr o)) l
  ]
]

-- after three reversals a word so many above comes to word k, and it may wrap
thrice : (by words k : ℕ) → by < words → k < words →
    let z = mirrored_within 0 by (mirrored_within by words (mirrored_within 0 words k)) in
    (z ≡ k + by) ⊎ (z + words ≡ k + by)
thrice by words k fewer low =
    let x = 0 + words - 1 - k in
    rw (mirrored-inside 0 words k (omega arith) low) (elim (cases_lt (k + by) words) [
      | inl l ↦ inl (ap (mirrored_within 0 by)
          (mirrored-inside by words x (omega (arith, l)) (omega (arith, low)))
          ∙ mirrored-outside 0 by (by + words - 1 - x) (inr (omega (arith, l)))
          ∙ omega (arith, l))
      | inr g ↦ inr (ap (λ n. n + words)
          (ap (mirrored_within 0 by)
          (mirrored-outside by words x (inl (omega (arith, g, fewer, low))))
          ∙ mirrored-inside 0 by x (omega arith) (omega (arith, g, fewer, low)))
          ∙ omega (arith, g, fewer, low))
    ])

-- three reversals rotate the words down by `by` words
pub thrice_reversed : (w by words : ℕ) (s r q t : PlainSet) → 0 < w → words * w ≡ s.capacity →
    by < words → ((i : ℕ) → t.capacity ≤ i → t.has i ≡ false) →
    HasWordsOf w (mirrored_within 0 by) s r → HasWordsOf w (mirrored_within by words) r q →
    HasWordsOf w (mirrored_within 0 words) q t → t ≡ rotated_down s (by * w)
thrice_reversed w by words s r q t word whole fewer past one two three =
    let size = three.capacity ∙ two.capacity ∙ one.capacity in
    let each : (i : ℕ) → t.has i ≡ has_rotated s (by * w) i = λ i. elim (cases_lt i s.capacity) [
      | inl l ↦
          let k = i / w in
          let o = i % w in
          let at : k * w + o ≡ i = div-add-mod' i w in
          let low : o < w = mod_below i w word in
          let h : k < words = lt_of_mul-lt-mul_right w (omega (arith, at, l, whole)) in
          let x = mirrored_within 0 words k in
          let y = mirrored_within by words x in
          let z = mirrored_within 0 by y in
          let x_low : x < words = mirrored_below 0 words words k (omega arith) h in
          let y_low : y < words = mirrored_below by words words x (omega arith) x_low in
          let z_low : z < words = mirrored_below 0 by words y (omega (arith, fewer)) y_low in
          let within : (n : ℕ) → n < words → n * w < s.capacity =
          λ n b. word_within w words n s.capacity word whole b in
          let up : (z + 1) * w ≤ words * w = mul-le-mul_right w (omega (arith, z_low)) in
          let top : z * w + o < s.capacity = omega (arith, up, low, whole) in
          ap t.has (sym at)
          ∙ three.words k o (omega (arith, within k h, two.capacity, one.capacity)) low
          ∙ two.words x o (omega (arith, within x x_low, one.capacity)) low
          ∙ one.words y o (within y y_low) low
          ∙ sym (rotated-below s (by * w) i l ∙ elim (thrice by words k fewer h) [
            | inl e ↦
                let on : i + by * w ≡ z * w + o = omega (arith, at, ap (λ n. n * w) e) in
                ap (contains s) on ∙ contains_within s (z * w + o) top
            | inr e ↦ contains_past s (i + by * w) (z * w + o)
                (omega (arith, at, ap (λ n. n * w) e, whole)) top
          ])
      | inr g ↦ past i (omega (arith, g, size)) ∙ sym (rotated-past s (by * w) i g)
    ] in
    λ j. plain_set (size j) (λ i. each i j)

-- a rotation is a shift down in which the numbers from n on are as in the rotated set, if all bits
-- that passed index 0 come to n or above
pub end_rotated : (s : PlainSet) (by n : ℕ) → n + by ≤ s.capacity →
    replaced_where (λ i. nat_le n i) (has_rotated s by) (shifted_down s by) ≡ rotated_down s by
end_rotated s by n h = ap (plain_set s.capacity) (fun_ext λ i. elim (cases_lt i n) [
  | inl l ↦ ap (λ b. cond b (has_rotated s by i) (has_shifted_down s by i)) (lt-leb n i l)
      ∙ down-inside s by i (omega (arith, l, h))
      ∙ sym (rotated-below s by i (omega (arith, l, h))
      ∙ contains_within s (i + by) (omega (arith, l, h)))
  | inr g ↦ ap (λ b. cond b (has_rotated s by i) (has_shifted_down s by i)) (le-leb n i g)
])

-- a rotation is a shift up in which the numbers below n are as in the rotated set, if all bits that
-- passed the last index come below n
pub start_rotated : (s : PlainSet) (by up n : ℕ) → by + up ≡ s.capacity → up ≤ n →
    replaced_where (λ i. nat_lt i n) (has_rotated s by) (shifted_up s up) ≡ rotated_down s by
start_rotated s by up n parts h =
    rest_alike n (has_rotated s by) (shifted_up s up) (λ i g. elim (cases_lt i s.capacity) [
      | inl l ↦ up-inside s up i (omega (arith, g, h)) l
          ∙ sym (rotated-below s by i l ∙ contains_past s (i + by) (i - up)
          (omega (arith, g, h, parts)) (omega (arith, l)))
      | inr o ↦ up-past s up i o ∙ sym (rotated-past s by i o)
    ])

-- one more word is written as it is in the rotated set
pub more_rotated : (m : Bool) (w words skipped from by k at r : ℕ) (done more : ℕ → Bool)
    (s base now after : PlainSet) → 0 < w → (n : ℕ) × (now.capacity ≡ n * w) →
    ((i : ℕ) → now.capacity ≤ i → now.has i ≡ false) →
    ((i : ℕ) → after.capacity ≤ i → after.has i ≡ false) →
    IsDistance w s.capacity by words skipped from → by < s.capacity → k < words →
    (at ≡ k + skipped) ⊎ (at + words ≡ k + skipped) →
    IsWordFrom w s (at * w + from) (read_in m w (bit_set w r)) → AddsWord w k done more →
    ReplacesWord w now k (bit_set w r) after →
    read_in m w now ≡ replaced_where done (has_rotated s by) base →
    read_in m w after ≡ replaced_where more (has_rotated s by) base
more_rotated m w words skipped from by k at r done more s base now after word whole past also far
    inside low where_is here adds replaced before =
    more_replaced m w k r done more (has_rotated s by) base now after word whole past also adds
    replaced (rotated_word m w s.capacity words skipped from by k at r s
    (rw (← mod-eq_of_lt inside) at far) refl low where_is here) before

-- a set of one word is rotated if its word becomes a window over that word twice
pub word_rotated : (m : Bool) (w by p r : ℕ) (s t : PlainSet) → 0 < w → s.capacity ≡ w → by < w →
    ((i : ℕ) → s.capacity ≤ i → s.has i ≡ false) → ((i : ℕ) → t.capacity ≤ i → t.has i ≡ false) →
    bit_set w p ≡ word_of w s 0 →
    IsWindow w by (read_in m w (bit_set w p)) (read_in m w (bit_set w p))
    (read_in m w (bit_set w r)) →
    ReplacesWord w s 0 (bit_set w r) t → read_in m w t ≡ rotated_down (read_in m w s) by
word_rotated m w by p r s t word one low past also ours is replaced =
    let u = read_in m w s in
    let all : 1 * w ≡ s.capacity = omega (arith, one) in
    let whole : (words : ℕ) × (s.capacity ≡ words * w) = (1, omega (arith, one)) in
    let small : by % w ≡ by = mod-eq_of_lt low in
    let far : IsDistance w w (by % w) 1 0 by = record {
      whole = omega arith;
      fewer = omega arith;
      within = low;
      parts = omega (arith, small);
    } in
    let g = has_rotated u by in
    let gone = rotated-past u by in
    let none = members-past m w s word whole past in
    let here = rotated_word m w w 1 0 by by 0 0 r u far (omega (arith, one))
    (omega arith) (inl refl)
    (window_from m w 0 by p p r s word whole low 0 (inl (omega (arith, one), refl)) ours ours is) in
    more_replaced m w 0 r (λ i. nat_lt i (0 * w)) (λ i. nat_lt i (1 * w)) g u s t word whole past
    also (adds_upward w 0 word) replaced here
    (none_replaced (λ i. nat_lt i (0 * w)) g u none gone (λ i l. le-ltb i (0 * w) (omega arith)))
    ∙ all_replaced (λ i. nat_lt i (1 * w)) g u none gone
    (λ i l. lt-ltb i (1 * w) (omega (arith, l, one)))

-- two rotations down add up
pub rotated_twice : (s : PlainSet) (a b : ℕ) →
    rotated_down (rotated_down s a) b ≡ rotated_down s (a + b)
rotated_twice s a b = ap (plain_set s.capacity) (fun_ext λ k. elim (cases_lt k s.capacity) [
  | inl l ↦
      let both : k + b + a ≡ k + (a + b) = omega arith in
      rotated-below (rotated_down s a) b k l ∙ rotated_from s a (k + b) ∙ ap (contains s) both
      ∙ sym (rotated-below s (a + b) k l)
  | inr g ↦ rotated-past (rotated_down s a) b k g ∙ sym (rotated-past s (a + b) k g)
])

-- a rotation by `by` is a rotation by `by` modulo the capacity
pub rotated_wrapped : (s : PlainSet) (by : ℕ) →
    rotated_down s (by % s.capacity) ≡ rotated_down s by
rotated_wrapped s by = ap (plain_set s.capacity) (fun_ext λ k. elim (cases_lt k s.capacity) [
  | inl l ↦ rotated-below s (by % s.capacity) k l
      ∙ contains_as s (k + by % s.capacity) (k + by) (add-mod-mod k by s.capacity)
      ∙ sym (rotated-below s by k l)
  | inr g ↦ rotated-past s (by % s.capacity) k g ∙ sym (rotated-past s by k g)
])

-- a rotation by 0 changes no set, and no rotation changes a set of capacity 0
pub rotated_none : (s : PlainSet) → ((i : ℕ) → s.capacity ≤ i → s.has i ≡ false) →
    s ≡ rotated_down s 0
rotated_none s past = ap (plain_set s.capacity) (fun_ext λ k. elim (cases_lt k s.capacity) [
  | inl l ↦
      let same : k + 0 ≡ k = omega arith in
      sym (rotated-below s 0 k l ∙ ap (contains s) same ∙ contains_within s k l)
  | inr g ↦ past k g ∙ sym (rotated-past s 0 k g)
])

pub rotated_nothing : (s : PlainSet) (by : ℕ) → s.capacity ≡ 0 →
    ((i : ℕ) → s.capacity ≤ i → s.has i ≡ false) → s ≡ rotated_down s by
rotated_nothing s by none past = ap (plain_set s.capacity) (fun_ext λ k.
    past k (omega (arith, none)) ∙ sym (rotated-past s by k (omega (arith, none))))
