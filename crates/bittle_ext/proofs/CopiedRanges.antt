-- Sets after a range was copied to them from a set.
use Rattle.std.proofs.Common.{◌≡◌, ℕ, zero, suc, ◌+◌, ◌-◌, ◌*◌, ◌/◌, ◌%◌, ◌^◌, ◌<◌, ◌≤◌, ◌⊎◌, Bool}
use Rattle.std.proofs.Common.{false, cond, ◌==◌, inl, inr, refl, sym, ap, ◌∙◌, arith}
use Rattle.std.proofs.Math.Path.{fun_ext}
use Rattle.std.proofs.lemmas.Bool.{cases_lt}
use Rattle.std.proofs.lemmas.Nat.{div-add-mod', mod-mul-add, mod_below, pow_pos}
use Rattle.bittle.specs.BitPatterns.{bit_set}
use Rattle.bittle.specs.Orders.{read_in}
use Rattle.bittle.specs.PlainSet.{PlainSet, contains, is_in_span}
use Rattle.bittle.specs.Words.{word_of, ReplacesWord}
use Rattle.bittle_bits.proofs.BitSets.{bit_has-at}
use Rattle.bittle_bits.proofs.PlainSets.{plain_set}
use Rattle.bittle_bits.proofs.Spans.{is_in_span-inside, is_in_span-outside}
use Rattle.bittle_bits.proofs.Words.{digit_at}
use Rattle.bittle.proofs.CallerSets.{contains_within}
use Rattle.bittle_ext.specs.Numbers.{HasBitsOf, has_copied, number_in, with_copied}
use Rattle.bittle_ext.proofs.NumberBits.{number_is}
use Rattle.bittle_ext.proofs.Windows.{bit_at_masked}
use Rattle.bittle_ext.proofs.WordsReplaced.{AddsWord, more_replaced, word_at_most}

-- a number of the range at..at + n is a member exactly if the number that it is copied from is one
pub copied-inside : (s t : PlainSet) (at n from k : ℕ) → at ≤ k → k < at + n →
    has_copied s at n t from k ≡ t.has (k - at + from)
unfolding has_copied
copied-inside s t at n from k low high =
    ap (λ b. cond b (t.has (k - at + from)) (s.has k)) (is_in_span-inside at (at + n) k low high)

-- a number outside the range is a member exactly if it was one before
pub copied-outside : (s t : PlainSet) (at n from k : ℕ) → (k < at) ⊎ (at + n ≤ k) →
    has_copied s at n t from k ≡ s.has k
unfolding has_copied
copied-outside s t at n from k out =
    ap (λ b. cond b (t.has (k - at + from)) (s.has k)) (is_in_span-outside at (at + n) k out)

-- a copy of 0 numbers does not change the set
pub copied_none : (s t : PlainSet) (at from : ℕ) → s ≡ with_copied s at 0 t from
copied_none s t at from = ap (plain_set s.capacity) (fun_ext λ k. elim (cases_lt k at) [
  | inl l ↦ sym (copied-outside s t at 0 from k (inl l))
  | inr g ↦ sym (copied-outside s t at 0 from k (inr (omega (arith, g))))
])

-- for each i below n, i is a member of u exactly if first + i is a member of s
abbrev pub BeginsLike : PlainSet → PlainSet → ℕ → ℕ → Type 0
BeginsLike u s first n = (i : ℕ) → i < n → u.has i ≡ s.has (first + i)

-- if the first `done` numbers are copied, and then `more` after them from a set that begins like
-- the rest, `done + more` are copied
pub copied_after : (s t : PlainSet) (at done more from : ℕ) (v : PlainSet) →
    BeginsLike v t (from + done) more →
    with_copied (with_copied s at done t from) (at + done) more v 0
    ≡ with_copied s at (done + more) t from
copied_after s t at done more from v same =
    let u = with_copied s at done t from in
    ap (plain_set s.capacity) (fun_ext λ k. elim (cases_lt k (at + done)) [
      | inl l ↦ copied-outside u v (at + done) more 0 k (inl l) ∙ elim (cases_lt k at) [
        | inl b ↦ copied-outside s t at done from k (inl b)
            ∙ sym (copied-outside s t at (done + more) from k (inl b))
        | inr a ↦ copied-inside s t at done from k a l
            ∙ sym (copied-inside s t at (done + more) from k a (omega (arith, l)))
      ]
      | inr g ↦ elim (cases_lt k (at + done + more)) [
        | inl l ↦
            let i = k - (at + done) in
            let zero_more : k - (at + done) + 0 ≡ i = omega arith in
            copied-inside u v (at + done) more 0 k g l ∙ ap v.has zero_more
            ∙ same i (omega (arith, l, g)) ∙ ap t.has (omega (arith, g))
            ∙ sym (copied-inside s t at (done + more) from k (omega (arith, g)) (omega (arith, l)))
        | inr far ↦ copied-outside u v (at + done) more 0 k (inr far)
            ∙ copied-outside s t at done from k (inr (omega (arith, g)))
            ∙ sym (copied-outside s t at (done + more) from k (inr (omega (arith, far))))
      ]
    ])

-- if the last n numbers are copied, and then `more` before them from a set that begins like the
-- rest, `more + n` are copied
pub copied_before : (s t : PlainSet) (at more n from : ℕ) (v : PlainSet) →
    BeginsLike v t from more →
    with_copied (with_copied s (at + more) n t (from + more)) at more v 0
    ≡ with_copied s at (more + n) t from
copied_before s t at more n from v same =
    let u = with_copied s (at + more) n t (from + more) in
    ap (plain_set s.capacity) (fun_ext λ k. elim (cases_lt k at) [
      | inl b ↦ copied-outside u v at more 0 k (inl b)
          ∙ copied-outside s t (at + more) n (from + more) k (inl (omega (arith, b)))
          ∙ sym (copied-outside s t at (more + n) from k (inl b))
      | inr a ↦ elim (cases_lt k (at + more)) [
        | inl l ↦
            let i = k - at in
            let zero_more : k - at + 0 ≡ i = omega arith in
            copied-inside u v at more 0 k a l ∙ ap v.has zero_more
            ∙ same i (omega (arith, l, a)) ∙ ap t.has (omega arith)
            ∙ sym (copied-inside s t at (more + n) from k a (omega (arith, l)))
        | inr g ↦ copied-outside u v at more 0 k (inr g) ∙ elim (cases_lt k (at + more + n)) [
          | inl h ↦ copied-inside s t (at + more) n (from + more) k g h
              ∙ ap t.has (omega (arith, g))
              ∙ sym (copied-inside s t at (more + n) from k a (omega (arith, h)))
          | inr far ↦ copied-outside s t (at + more) n (from + more) k (inr far)
              ∙ sym (copied-outside s t at (more + n) from k (inr (omega (arith, far))))
        ]
      ]
    ])

-- what begins like a set outside a copied range begins like the set before the copy
pub like_outside : (s t : PlainSet) (at n from first more : ℕ) (v : PlainSet) →
    (first + more ≤ at) ⊎ (at + n ≤ first) →
    BeginsLike v (with_copied s at n t from) first more → BeginsLike v s first more
like_outside s t at n from first more v apart same i h =
    same i h ∙ elim apart [
      | inl below ↦ copied-outside s t at n from (first + i) (inl (omega (arith, below, h)))
      | inr above ↦ copied-outside s t at n from (first + i) (inr (omega (arith, above)))
    ]

-- what begins like a set from `cut` on does so from `first` on, if the two are equal or both past
-- the capacity
pub like_at_most : (s : PlainSet) (first cut top n : ℕ) (v : PlainSet) →
    ((i : ℕ) → s.capacity ≤ i → s.has i ≡ false) → s.capacity ≤ top →
    (cut ≡ first) ⊎ ((top ≤ cut) × (top ≤ first)) → BeginsLike v s cut n → BeginsLike v s first n
like_at_most s first cut top n v past high where_is same i h =
    same i h ∙ elim where_is [
      | inl e ↦ ap (λ k. s.has (k + i)) e
      | inr far ↦ past (cut + i) (omega (arith, high, far.0))
          ∙ sym (past (first + i) (omega (arith, high, far.1)))
    ]

-- a number that has the bits of a range begins like it
pub like_number : (s : PlainSet) (first n w d : ℕ) → n ≤ w → HasBitsOf s first n d →
    BeginsLike (bit_set w d) s first n
like_number s first n w d small bits i h = bit_has-at w d i (omega (arith, h, small)) ∙ bits i h

-- a set of which one word has got the bits of a number has them from an index of that word on
module _ (m : Bool) (w k first from count p r : ℕ) (s t u : PlainSet) (word : 0 < w)
    (at : k * w + from ≡ first) (within : from + count ≤ w)
    (ours : bit_set w p ≡ word_of w s k)
    (is : (i : ℕ) → i < w → (read_in m w (bit_set w r)).has i
    ≡ has_copied (read_in m w (bit_set w p)) from count u 0 i)
    (replaced : ReplacesWord w s k (bit_set w r) t) where
  abbrev before : PlainSet
  before = read_in m w s

  -- a number of the word
  here : (o : ℕ) → o < w →
      (read_in m w (bit_set w r)).has o ≡ has_copied before first count u 0 (k * w + o)
  here o h =
      let old = digit_at m w k s p word ours o h in
      is o h ∙ elim (cases_lt o from) [
        | inl l ↦ copied-outside (read_in m w (bit_set w p)) u from count 0 o (inl l) ∙ old
            ∙ sym (copied-outside before u first count 0 (k * w + o) (inl (omega (arith, at, l))))
        | inr g ↦ elim (cases_lt o (from + count)) [
          | inl l ↦ copied-inside (read_in m w (bit_set w p)) u from count 0 o g l
              ∙ ap u.has (omega (arith, at))
              ∙ sym (copied-inside before u first count 0 (k * w + o) (omega (arith, at, g))
              (omega (arith, at, l)))
          | inr far ↦ copied-outside (read_in m w (bit_set w p)) u from count 0 o (inr far) ∙ old
              ∙ sym (copied-outside before u first count 0 (k * w + o)
              (inr (omega (arith, at, far))))
        ]
      ]

  adds : AddsWord w k (λ _. false) (is_in_span (k * w) ((k + 1) * w))
  adds = record {
    here = λ o h. is_in_span-inside (k * w) ((k + 1) * w) (k * w + o) (omega arith) (omega arith);
    others = λ i n. elim (cases_lt i ((k + 1) * w)) [
      | inl h ↦ is_in_span-outside (k * w) ((k + 1) * w) i (inl (word_at_most w k i word h n))
      | inr h ↦ is_in_span-outside (k * w) ((k + 1) * w) i (inr h)
    ];
  }

  -- a number that lies in no copied place is as it was
  all_here : (i : ℕ) → cond (is_in_span (k * w) ((k + 1) * w) i)
      (has_copied before first count u 0 i)
      (before.has i) ≡ has_copied before first count u 0 i
  all_here i =
      let g = has_copied before first count u 0 i in
      elim (cases_lt i (k * w)) [
        | inl l ↦ ap (λ b. cond b g (before.has i))
            (is_in_span-outside (k * w) ((k + 1) * w) i (inl l))
            ∙ sym (copied-outside before u first count 0 i (inl (omega (arith, at, l))))
        | inr a ↦ elim (cases_lt i ((k + 1) * w)) [
          | inl l ↦ ap (λ b. cond b g (before.has i))
              (is_in_span-inside (k * w) ((k + 1) * w) i a l)
          | inr h ↦ ap (λ b. cond b g (before.has i))
              (is_in_span-outside (k * w) ((k + 1) * w) i (inr h))
              ∙ sym (copied-outside before u first count 0 i
              (inr (omega (arith, at, within, h))))
        ]
      ]

  pub word_copied : (words : ℕ) × (s.capacity ≡ words * w) →
      ((i : ℕ) → s.capacity ≤ i → s.has i ≡ false) →
      ((i : ℕ) → t.capacity ≤ i → t.has i ≡ false) →
      read_in m w t ≡ with_copied before first count u 0
  word_copied whole past also =
      more_replaced m w k r (λ _. false) (is_in_span (k * w) ((k + 1) * w))
      (has_copied before first count u 0) before s t word whole past also adds replaced here refl
      ∙ ap (plain_set s.capacity) (fun_ext all_here)

-- the `less` bits that end with index e lie in the word of e, if that word has as many up to e
pub last_part : (w e less : ℕ) → 0 < w → 0 < less → less ≤ e % w + 1 →
    (e + 1 - less) % w + less ≤ w
last_part w e less word some most =
    let low = mod_below e w word in
    let split : e + 1 - less ≡ e / w * w + (e % w + 1 - less) =
    omega (arith, div-add-mod' e w, most) in
    omega (
      arith,
      ap (λ n. n % w) split,
      mod-mul-add (e / w) w (e % w + 1 - less) (omega (arith, low, some)),
      low,
      most,
    )

-- `copied-inside`, for a test by `contains`
pub copied_each : (s t u : PlainSet) (at n from : ℕ) → u ≡ with_copied s at n t from →
    at + n ≤ s.capacity → (i : ℕ) → i < n → contains u (at + i) ≡ t.has (from + i)
copied_each s t u at n from is within i h =
    ap (λ v. contains v (at + i)) is
    ∙ contains_within (with_copied s at n t from) (at + i) (omega (arith, within, h))
    ∙ copied-inside s t at n from (at + i) (omega arith) (omega (arith, h))
    ∙ ap t.has (omega arith)

-- `copied-outside`, for a test by `contains`
pub kept_each : (s t u : PlainSet) (at n from : ℕ) → u ≡ with_copied s at n t from → (i : ℕ) →
    i < s.capacity → (i < at) ⊎ (at + n ≤ i) → contains u i ≡ contains s i
kept_each s t u at n from is i h out =
    ap (λ v. contains v i) is ∙ contains_within (with_copied s at n t from) i h
    ∙ copied-outside s t at n from i out ∙ sym (contains_within s i h)

-- sets that have the same members in a range have the same number there
same_number : (s t : PlainSet) (first n : ℕ) →
    ((i : ℕ) → i < n → s.has (first + i) ≡ t.has (first + i)) →
    number_in s first n ≡ number_in t first n
unfolding number_in
same_number s t first zero same = refl
same_number s t first (suc n) same =
    let low = same_number s t first n (λ i h. same i (omega (arith, h))) in
    let high = ap (λ b. cond b (2 ^ n) 0) (same n (omega arith)) in
    (λ j. low j + high j)

-- outside a copied range, the number of a range is the same as before the copy
pub number_outside : (s t u : PlainSet) (at n from first k : ℕ) → u ≡ with_copied s at n t from →
    (first + k ≤ at) ⊎ (at + n ≤ first) → number_in u first k ≡ number_in s first k
number_outside s t u at n from first k is out =
    ap (λ v. number_in v first k) is
    ∙ same_number (with_copied s at n t from) s first k (λ i h. elim out [
      | inl l ↦ copied-outside s t at n from (first + i) (inl (omega (arith, l, h)))
      | inr g ↦ copied-outside s t at n from (first + i) (inr (omega (arith, g)))
    ])

-- after the bits of a number were copied to a range of n bits, the number of the range is that
-- number modulo 2 ^ n
pub number_copied : (s u : PlainSet) (w first n d : ℕ) → u ≡ with_copied s first n (bit_set w d) 0 →
    n ≤ w → number_in u first n ≡ d % 2 ^ n
number_copied s u w first n d is small =
    sym (number_is u first n (d % 2 ^ n) (mod_below d (2 ^ n) (pow_pos n)) (λ i h.
    ap (λ b. b == 1) (bit_at_masked d n i h)
    ∙ sym (bit_has-at w d i (omega (arith, h, small)))
    ∙ ap (bit_set w d).has (omega arith)
    ∙ sym (ap (λ v. v.has (first + i)) is
    ∙ copied-inside s (bit_set w d) first n 0 (first + i) (omega arith) (omega (arith, h)))))
