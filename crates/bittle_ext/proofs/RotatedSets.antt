-- Sets that are rotated or shifted, word by word.
use Rattle.std.proofs.Common.{◌≡◌, ℕ, ◌+◌, ◌-◌, ◌*◌, ◌/◌, ◌%◌, ◌<◌, ◌≤◌, ◌⊎◌, Bool, false, ◌&&◌}
use Rattle.std.proofs.Common.{nat_lt, nat_le, inl, inr, refl, sym, ap, ◌∙◌, arith}
use Rattle.std.proofs.Math.Path.{fun_ext}
use Rattle.std.proofs.Math.Nat.{add-mod_left, add-mod_right, add-mod-mod, mod-add-mod}
use Rattle.std.proofs.Math.Nat.{add-mul-mod_self_right, mul-le-mul_right, mul-lt-mul_of_pos_right}
use Rattle.std.proofs.lemmas.Nat.{div-add-mod', mod_below}
use Rattle.std.proofs.lemmas.Bool.{cases_eq, cases_lt, lt-ltb, le-ltb, lt-leb, le-leb, and_right}
use Rattle.bittle.specs.BitPatterns.{bit_set}
use Rattle.bittle.specs.Orders.{read_in}
use Rattle.bittle.specs.PlainSet.{PlainSet, contains, empty_set}
use Rattle.bittle.specs.Words.{word_of}
use Rattle.bittle_bits.proofs.PlainSets.{plain_set}
use Rattle.bittle_bits.proofs.Words.{digit_at, word_ends}
use Rattle.bittle.proofs.CallerSets.{contains_within}
use Rattle.bittle_ext.specs.Rotations.{has_rotated, rotated_down, rotated_up, has_shifted_down}
use Rattle.bittle_ext.specs.Rotations.{shifted_down, has_shifted_up, shifted_up, IsDistance}
use Rattle.bittle_ext.specs.Rotations.{IsWordAfter, IsWindow, IsWordFrom}

-- two indexes that wrap to the same one are both members, or neither is
pub contains_as : (s : PlainSet) (i j : ℕ) → i % s.capacity ≡ j % s.capacity →
    contains s i ≡ contains s j
unfolding contains
contains_as s i j e = ap (λ k. nat_lt 0 s.capacity && s.has k) e

-- an index of the capacity plus j is a member exactly if j is one
pub contains_past : (s : PlainSet) (i j : ℕ) → i ≡ s.capacity + j → j < s.capacity →
    contains s i ≡ s.has j
contains_past s i j e h =
    contains_as s i j (ap (λ k. k % s.capacity) e ∙ add-mod_left s.capacity j)
    ∙ contains_within s j h

-- each word begins below the capacity
pub word_within : (w words k capacity : ℕ) → 0 < w → words * w ≡ capacity → k < words →
    k * w < capacity
word_within w words k capacity word whole fewer =
    let low : k * w < words * w = mul-lt-mul_of_pos_right fewer word in
    omega (arith, low, whole)

-- if word `at` is not the last one, word at + 1 comes next
pub next_inside : (w words at capacity : ℕ) → 0 < w → words * w ≡ capacity → at + 1 < words →
    IsWordAfter w capacity at (at + 1)
next_inside w words at capacity word whole more =
    inr (word_within w words (at + 1) capacity word whole more, refl)

-- both begin below the capacity, and the first one ends there
module _ (w at next capacity : ℕ) (word : 0 < w) (is : IsWordAfter w capacity at next) where
  pub this_ends : (at + 1) * w ≤ capacity
  this_ends = elim is [
    | inl last ↦ omega (arith, last.0)
    | inr more ↦ omega (arith, more.0)
  ]

  pub this_within : at * w < capacity
  this_within = omega (arith, this_ends, word)

  pub next_within : next * w < capacity
  next_within = elim is [
    | inl last ↦ omega (arith, ap (λ k. k * w) last.1, this_within)
    | inr more ↦ omega (arith, ap (λ k. k * w) more.1, more.0)
  ]

-- a window over word `at` and the one after it is the word from there
module _ (m : Bool) (w at from d e r : ℕ) (s : PlainSet) (word : 0 < w)
    (whole : (words : ℕ) × (s.capacity ≡ words * w)) (within : from < w) where
  abbrev t : PlainSet
  t = read_in m w s

  pub window_from : (next : ℕ) → IsWordAfter w s.capacity at next →
      bit_set w d ≡ word_of w s at → bit_set w e ≡ word_of w s next →
      IsWindow w from (read_in m w (bit_set w d)) (read_in m w (bit_set w e))
      (read_in m w (bit_set w r)) →
      IsWordFrom w t (at * w + from) (read_in m w (bit_set w r))
  window_from next where_is ours theirs is i b =
      let up = this_ends w at next s.capacity word where_is in
      elim (cases_lt (i + from) w) [
        | inl l ↦ is.first i l ∙ digit_at m w at s d word ours (i + from) l
            ∙ ap t.has (omega arith)
            ∙ sym (contains_within t (at * w + from + i) (omega (arith, up, l)))
        | inr g ↦ is.second i b g ∙ digit_at m w next s e word theirs (i + from - w) (omega arith)
            ∙ elim where_is [
              | inl last ↦
                  let zero : next * w ≡ 0 = ap (λ k. k * w) last.1 ∙ omega arith in
                  ap t.has (omega (arith, zero))
                  ∙ sym (contains_past t (at * w + from + i) (i + from - w)
                  (omega (arith, last.0, g)) (omega (arith, last.0, b, within)))
              | inr more ↦
                  let on : next * w ≡ at * w + w = ap (λ k. k * w) more.1 ∙ omega arith in
                  let top = word_ends w (at + 1) s.capacity whole more.0 in
                  ap t.has (omega (arith, on, g))
                  ∙ sym (contains_within t (at * w + from + i) (omega (arith, top, b, within)))
            ]
      ]

-- if word `at` is `skipped` words above word k, and may wrap, an index of it wraps to the same one
-- as that of word k plus `by`
pub wrapped_at : (w c words by skipped from k at : ℕ) → words * w ≡ c →
    skipped * w + from ≡ by % c →
    (at ≡ k + skipped) ⊎ (at + words ≡ k + skipped) → (i : ℕ) →
    (at * w + from + i) % c ≡ (k * w + i + by) % c
wrapped_at w c words by skipped from k at whole parts where_is i =
    elim where_is [
      | inl e ↦
          let x : at * w + from + i ≡ k * w + i + by % c =
          omega (arith, ap (λ t. t * w) e, parts) in
          ap (λ t. t % c) x ∙ add-mod-mod (k * w + i) by c
      | inr e ↦
          let x : at * w + from + i + c ≡ k * w + i + by % c =
          omega (arith, ap (λ t. t * w) e, parts, whole) in
          sym (add-mod_right (at * w + from + i) c) ∙ ap (λ t. t % c) x
          ∙ add-mod-mod (k * w + i) by c
    ]

pub rotated-below : (s : PlainSet) (by k : ℕ) → k < s.capacity → has_rotated s by k
    ≡ contains s (k + by)
unfolding has_rotated
rotated-below s by k h = rw (lt-ltb k s.capacity h) refl

pub rotated-past : (s : PlainSet) (by k : ℕ) → s.capacity ≤ k → has_rotated s by k ≡ false
unfolding has_rotated
rotated-past s by k h = rw (le-ltb k s.capacity h) refl

-- a word read from index `from` of word `at` on is word k of the rotated set, if word `at` is
-- `skipped` words above, and may wrap
pub rotated_word : (m : Bool) (w c words skipped from by k at d : ℕ) (s : PlainSet) →
    IsDistance w c (by % c) words skipped from → c ≡ s.capacity → k < words →
    (at ≡ k + skipped) ⊎ (at + words ≡ k + skipped) →
    IsWordFrom w s (at * w + from) (read_in m w (bit_set w d)) → (i : ℕ) → i < w →
    (read_in m w (bit_set w d)).has i ≡ has_rotated s by (k * w + i)
rotated_word m w c words skipped from by k at d s far same low where_is here i h =
    let up : (k + 1) * w ≤ words * w = mul-le-mul_right w (omega (arith, low)) in
    here i h ∙ contains_as s (at * w + from + i) (k * w + i + by)
    (rw (← same) (wrapped_at w c words by skipped from k at far.whole far.parts where_is i))
    ∙ sym (rotated-below s by (k * w + i) (omega (arith, up, far.whole, same, h)))

contains_none : (s : PlainSet) (i : ℕ) → s.capacity ≡ 0 → contains s i ≡ false
unfolding contains
contains_none s i e = rw (le-ltb 0 s.capacity (omega (arith, e))) refl

contains_some : (s : PlainSet) (i : ℕ) → 0 < s.capacity → contains s i ≡ s.has (i % s.capacity)
unfolding contains
contains_some s i h = rw (lt-ltb 0 s.capacity h) refl

-- after a rotation down by `by`, index i is a member exactly if i + by was one
pub rotated_from : (s : PlainSet) (by i : ℕ) → contains (rotated_down s by) i ≡ contains s (i + by)
rotated_from s by i =
    elim (cases_eq s.capacity 0) [
      | inl none ↦ contains_none (rotated_down s by) i none ∙ sym (contains_none s (i + by) none)
      | inr some ↦
          contains_some (rotated_down s by) i (omega arith)
          ∙ rotated-below s by (i % s.capacity) (mod_below i s.capacity (omega arith))
          ∙ contains_as s (i % s.capacity + by) (i + by) (mod-add-mod i s.capacity by)
    ]

-- after a rotation up by `by`, index i + by is a member exactly if i was one
pub rotated_to : (s : PlainSet) (by i : ℕ) → contains (rotated_up s by) (i + by) ≡ contains s i
rotated_to s by i =
    let c = s.capacity in
    let back = c - by % c in
    elim (cases_eq c 0) [
      | inl none ↦ contains_none (rotated_up s by) (i + by) none ∙ sym (contains_none s i none)
      | inr some ↦
          let rounds : i + by + back ≡ i + (by / c + 1) * c =
          omega (arith, div-add-mod' by c, mod_below by c (omega arith)) in
          rotated_from s back (i + by)
          ∙ contains_as s (i + by + back) i (ap (λ n. n % c) rounds
          ∙ add-mul-mod_self_right i (by / c + 1) c)
    ]

pub down-inside : (s : PlainSet) (by k : ℕ) → k + by < s.capacity →
    has_shifted_down s by k ≡ s.has (k + by)
unfolding has_shifted_down
down-inside s by k h = rw (lt-ltb (k + by) s.capacity h) refl

pub down-past : (s : PlainSet) (by k : ℕ) → s.capacity ≤ k + by → has_shifted_down s by k ≡ false
unfolding has_shifted_down
down-past s by k h = rw (le-ltb (k + by) s.capacity h) refl

-- a set shifted down by its capacity or more is empty
pub all_down : (s : PlainSet) (by : ℕ) → s.capacity ≤ by → empty_set s.capacity ≡ shifted_down s by
all_down s by h = ap (plain_set s.capacity) (fun_ext λ k. sym (down-past s by k (omega arith)))

pub up-inside : (s : PlainSet) (by k : ℕ) → by ≤ k → k < s.capacity →
    has_shifted_up s by k ≡ s.has (k - by)
unfolding has_shifted_up
up-inside s by k h l = rw (le-leb by k h, lt-ltb k s.capacity l) refl

pub up-before : (s : PlainSet) (by k : ℕ) → k < by → has_shifted_up s by k ≡ false
unfolding has_shifted_up
up-before s by k h = rw (lt-leb by k h) refl

pub up-past : (s : PlainSet) (by k : ℕ) → s.capacity ≤ k → has_shifted_up s by k ≡ false
unfolding has_shifted_up
up-past s by k h = rw (le-ltb k s.capacity h)
    (ap (λ b. b && s.has (k - by)) (and_right (nat_le by k) false refl))

-- a set shifted up by its capacity or more is empty
pub all_up : (s : PlainSet) (by : ℕ) → s.capacity ≤ by → empty_set s.capacity ≡ shifted_up s by
all_up s by h = ap (plain_set s.capacity) (fun_ext λ k. sym (elim (cases_lt k by) [
  | inl l ↦ up-before s by k l
  | inr g ↦ up-past s by k (omega arith)
]))

-- after a shift down by `by`, index i is a member exactly if i + by was one
pub shifted_from : (s : PlainSet) (by i : ℕ) → i + by < s.capacity →
    contains (shifted_down s by) i ≡ contains s (i + by)
shifted_from s by i h = contains_within (shifted_down s by) i (omega arith) ∙ down-inside s by i h
    ∙ sym (contains_within s (i + by) h)

-- after a shift down by `by`, index i is no member if i + by is past the capacity
pub emptied_above : (s : PlainSet) (by i : ℕ) → i < s.capacity → s.capacity ≤ i + by →
    contains (shifted_down s by) i ≡ false
emptied_above s by i h g = contains_within (shifted_down s by) i h ∙ down-past s by i g

-- after a shift up by `by`, index i + by is a member exactly if i was one
pub shifted_to : (s : PlainSet) (by i : ℕ) → i + by < s.capacity →
    contains (shifted_up s by) (i + by) ≡ contains s i
shifted_to s by i h =
    let back : i + by - by ≡ i = omega arith in
    contains_within (shifted_up s by) (i + by) h ∙ up-inside s by (i + by) (omega arith) h
    ∙ ap s.has back ∙ sym (contains_within s i (omega arith))

-- after a shift up by `by`, an index below `by` is no member
pub emptied_below : (s : PlainSet) (by i : ℕ) → i < s.capacity → i < by →
    contains (shifted_up s by) i ≡ false
emptied_below s by i h l = contains_within (shifted_up s by) i h ∙ up-before s by i l
