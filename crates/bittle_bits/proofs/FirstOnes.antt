-- The first member in whole words of a set.
use Rattle.std.proofs.Common.{◌≡◌, ℕ, ◌+◌, ◌-◌, ◌*◌, ◌^◌, ◌<◌, ◌≤◌, Bool, false, inl, inr, Option}
use Rattle.std.proofs.Common.{Some, None, sym, ap, ◌∙◌, arith, bit_or}
use Rattle.std.proofs.lemmas.Bool.{cases_lt, true≢false}
use Rattle.std.proofs.lemmas.Nat.{le_or_l, le_or_r}
use Rattle.std.proofs.Math.Nat.{mul-le-mul_right}
use Rattle.bittle_bits.specs.BitPatterns.{bit_has, bit_set}
use Rattle.bittle_bits.specs.Orders.{place, read_in}
use Rattle.bittle_bits.specs.PlainSet.{PlainSet, IsLeastMember}
use Rattle.bittle_bits.specs.Searches.{IsFirstIn, NoneIn}
use Rattle.bittle_bits.specs.Words.{word_of}
use Rattle.bittle_bits.proofs.BitSets.{bit_has-zero, bit_has-below, some_digit}
use Rattle.bittle_bits.proofs.PlaceLemmas.{place_in_word, place-place}
use Rattle.bittle_bits.proofs.Words.{digit_at}

-- the word x is word k of a set, and the set has no member from `from` on before that word
module _ (m : Bool) (w : ℕ) (s : PlainSet) (word : 0 < w) (from k x : ℕ)
    (is : bit_set w x ≡ word_of w s k) (before : NoneIn (read_in m w s) from (k * w)) where
  none_up_to : (r : ℕ) → r ≤ w →
      ((i : ℕ) → i < r → (read_in m w (bit_set w x)).has i ≡ false) →
      NoneIn (read_in m w s) from (k * w + r)
  none_up_to r low none i after h =
      elim (cases_lt i (k * w)) [
        | inl l ↦ before i after l
        | inr g ↦
            let j = i - k * w in
            let back : k * w + j ≡ i = omega arith in
            rw back at (sym (digit_at m w k s x word is j (omega arith)) ∙ none j (omega arith))
      ]

  -- if the word has no member, the set has none up to the next word
  pub none_next : (next : ℕ) → next ≡ k + 1 → x ≡ 0 → NoneIn (read_in m w s) from (next * w)
  none_next next e zero = rw e (λ i after h. none_up_to w (omega arith)
      (λ j l. ap (λ p. p (place m w j)) (bit_has-zero w x zero)) i after (omega arith))

  -- the least member of the word is the first member of the set
  pub first_in_word : (r to : ℕ) → from ≤ k * w → IsLeastMember (read_in m w (bit_set w x)) r →
      r < w → k * w + r < to → IsFirstIn (read_in m w s) from to (Some (k * w + r))
  first_in_word r to begun least low within = (
    omega arith,
    within,
    sym (digit_at m w k s x word is r low) ∙ least.is_member low,
    none_up_to r least.within least.none_below,
  )

-- if a set has no member in its word k, that word is 0
pub zero_if_none : (m : Bool) (w : ℕ) (s : PlainSet) (k x : ℕ) → 0 < w → x < 2 ^ w →
    bit_set w x ≡ word_of w s k → NoneIn (read_in m w s) (k * w) ((k + 1) * w) → x ≡ 0
zero_if_none m w s k x word fits is none =
    elim (cases_lt 0 x) [
      | inl l ↦
          let t = some_digit w x fits (λ e. omega (arith, e, l)) in
          let i = place m w t.0 in
          let low : i < w = place_in_word m w t.0 (bit_has-below w x t.0 t.1) in
          absurd (true≢false (sym t.1 ∙ ap (bit_has w x) (sym (place-place m w t.0 word))
          ∙ digit_at m w k s x word is i low ∙ none (k * w + i) (omega arith) (omega (arith, low))))
      | inr g ↦ omega (arith, g)
    ]

-- an index in one of the first words lies below the capacity of these words
pub in_words : (k words w r : ℕ) → k < words → r < w → k * w + r < words * w
in_words k words w r below low =
    let up : (k + 1) * w ≤ words * w = mul-le-mul_right w (omega (arith, below)) in
    omega (arith, up, low)

-- a word that is not 0 has a least set bit
pub some_least : (m : Bool) (w x r : ℕ) → 0 < w → x < 2 ^ w → (x ≡ 0 → ⊥) →
    IsLeastMember (read_in m w (bit_set w x)) r → r < w
some_least m w x r word fits some least =
    elim (cases_lt r w) [
      | inl l ↦ l
      | inr g ↦
          let t = some_digit w x fits some in
          let i = place m w t.0 in
          let low : i < w = place_in_word m w t.0 (bit_has-below w x t.0 t.1) in
          absurd (true≢false (sym t.1 ∙ ap (bit_has w x) (sym (place-place m w t.0 word))
          ∙ least.none_below i (omega arith)))
    ]

-- each of four words is at most their or
pub each_within : (a b c d ab cd all : ℕ) → ab ≡ bit_or a b → cd ≡ bit_or c d →
    all ≡ bit_or ab cd → (a ≤ all) × (b ≤ all) × (c ≤ all) × (d ≤ all)
each_within a b c d ab cd all one two both =
    let first : ab ≤ all = omega (arith, both, le_or_l ab cd) in
    let second : cd ≤ all = omega (arith, both, le_or_r ab cd) in (
      omega (arith, first, one, le_or_l a b),
      omega (arith, first, one, le_or_r a b),
      omega (arith, second, two, le_or_l c d),
      omega (arith, second, two, le_or_r c d),
    )

-- if the or of four words is 0, each of the words is 0
pub each_is_zero : (a b c d ab cd all : ℕ) → ab ≡ bit_or a b → cd ≡ bit_or c d →
    all ≡ bit_or ab cd → all ≡ 0 → (a ≡ 0) × (b ≡ 0) × (c ≡ 0) × (d ≡ 0)
each_is_zero a b c d ab cd all one two both none =
    let t = each_within a b c d ab cd all one two both in (
      omega (arith, none, t.0),
      omega (arith, none, t.1),
      omega (arith, none, t.2),
      omega (arith, none, t.3),
    )

-- if each of four words is 0, their or is 0
pub all_is_zero : (a b c d ab cd all : ℕ) → ab ≡ bit_or a b → cd ≡ bit_or c d →
    all ≡ bit_or ab cd → a ≡ 0 → b ≡ 0 → c ≡ 0 → d ≡ 0 → all ≡ 0
all_is_zero a b c d ab cd all one two both i j k l = both ∙ (λ t. bit_or (one t) (two t))
    ∙ (λ t. bit_or (bit_or (i t) (j t)) (bit_or (k t) (l t)))

-- the first member of a range is the first of a wider range, if the wider range adds no member
pub first_widened : (s : PlainSet) (from a b to : ℕ) (r : Option ℕ) → from ≤ a → b ≤ to →
    NoneIn s from a → NoneIn s b to → IsFirstIn s a b r → IsFirstIn s from to r
first_widened s from a b to None lo hi before after none = λ k l h. elim (cases_lt k a) [
  | inl x ↦ before k l x
  | inr x ↦ elim (cases_lt k b) [ inl y ↦ none k x y | inr y ↦ after k y h ]
]
first_widened s from a b to (Some i) lo hi before after first = (
  omega (arith, first.0),
  omega (arith, first.1),
  first.2,
  λ k l h. elim (cases_lt k a) [ inl x ↦ before k l x | inr x ↦ first.3 k x h ],
)
