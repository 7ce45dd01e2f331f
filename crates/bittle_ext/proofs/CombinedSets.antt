-- A set that is combined with another one, word by word, and whether that changes it.
use Rattle.std.proofs.Common.{◌≡◌, ℕ, ◌+◌, ◌-◌, ◌*◌, ◌<◌, ◌≤◌, ◌==◌, ◌^◌, Bool, true, false, cond}
use Rattle.std.proofs.Common.{not, ◌&&◌, ◌||◌, nat_lt, MatchBool, IsTrue, ◌↔◌, bit_xor, inl, inr}
use Rattle.std.proofs.Common.{refl, sym, ap, ◌∙◌, arith}
use Rattle.std.proofs.Math.Path.{fun_ext}
use Rattle.std.proofs.lemmas.Bool.{cases_eq, cases_lt, eq-eqb, ne_eqb, lt-ltb, le-ltb, not-false}
use Rattle.std.proofs.lemmas.Bool.{true≢false}
use Rattle.bittle.specs.BitPatterns.{bit_has, bit_set}
use Rattle.bittle.specs.Orders.{place, read_in}
use Rattle.bittle.specs.PlainSet.{PlainSet, contains}
use Rattle.bittle.specs.SetOperations.{combination_of, just_one}
use Rattle.bittle.specs.Words.{word_of}
use Rattle.bittle_bits.proofs.BitSets.{bit_has-below, bit_has-zero, some_digit}
use Rattle.bittle_bits.proofs.PlaceLemmas.{place-place, place_in_word}
use Rattle.bittle_bits.proofs.PlainSets.{plain_set}
use Rattle.bittle_bits.proofs.SetOperations.{combination-below}
use Rattle.bittle_bits.proofs.WordOperations.{digits_just_one, word_combined}
use Rattle.bittle_bits.proofs.Words.{digit_at, word_has-at}
use Rattle.bittle.proofs.CallerSets.{contains_within}
use Rattle.bittle_ext.specs.Between.{has_below, members_to, Differ}
use Rattle.bittle_ext.specs.Combined.{decided_set}
use Rattle.bittle_ext.proofs.WordsReplaced.{replaced_where}

-- the result of an operation on two sets, cut off at the capacity of the first
abbrev pub combined : (Bool → Bool → Bool) → PlainSet → PlainSet → PlainSet
combined f s t = members_to s.capacity (decided_set f s t)

-- past the capacity of the first set, the result has no member
pub combined_past : (f : Bool → Bool → Bool) (s t : PlainSet) (i : ℕ) → s.capacity ≤ i →
    (combined f s t).has i ≡ false
unfolding has_below
combined_past f s t i h = ap (λ b. b && f (s.has i) (t.has i)) (le-ltb i s.capacity h)

-- below the capacity of the first set, the operation decides which numbers are members
pub combined_below : (f : Bool → Bool → Bool) (s t : PlainSet) (i : ℕ) → i < s.capacity →
    (combined f s t).has i ≡ f (s.has i) (t.has i)
unfolding has_below
combined_below f s t i h = ap (λ b. b && f (s.has i) (t.has i)) (lt-ltb i s.capacity h)

-- `combined_below`, for a test of the result by `contains`
pub combined_each : (f : Bool → Bool → Bool) (s t u : PlainSet) → u ≡ combined f s t →
    (i : ℕ) → i < s.capacity → contains u i ≡ f (contains s i) (t.has i)
combined_each f s t u is i h =
    ap (λ v. contains v i) is ∙ contains_within (combined f s t) i h
    ∙ combined_below f s t i h ∙ ap (λ b. f b (t.has i)) (sym (contains_within s i h))

-- b is whether, for some number below n, the test g differs from membership in s
abbrev pub TellsBelow : (ℕ → Bool) → PlainSet → ℕ → Bool → Type 0
TellsBelow g s n b = MatchBool b ((i : ℕ) × (i < n) × (g i ≡ not (s.has i)))
    ((i : ℕ) → i < n → g i ≡ s.has i)

-- no number is below 0, so there the test does not differ
pub tells_none : (w : ℕ) (g : ℕ → Bool) (s : PlainSet) → TellsBelow g s (0 * w) false
tells_none w g s = λ i h. absurd (omega arith)

-- x is word k of `now`, in which the words before word k are decided; y is word k of t; and r is
-- the result of the operation on x and y
pub record DecidesWord (f : Bool → Bool → Bool) (m : Bool) (w k x y r : ℕ) (s t now : PlainSet) :
    Type 0 where
  pub word : 0 < w
  pub ends : (k + 1) * w ≤ s.capacity
  pub before : read_in m w now ≡ replaced_where (λ i. nat_lt i (k * w)) (combined f s t).has s
  pub ours : bit_set w x ≡ word_of w now k
  pub theirs : read_in m w (bit_set w y) ≡ word_of w t k
  pub is : bit_set w r ≡ combination_of f (bit_set w x) (bit_set w y)

module _ {f : Bool → Bool → Bool} {m : Bool} {w k x y r : ℕ} {s t now : PlainSet}
    (d : DecidesWord f m w k x y r s t now) where
  -- the word as it was
  was : (o : ℕ) → o < w → (read_in m w (bit_set w x)).has o ≡ s.has (k * w + o)
  was o h = digit_at m w k now x d.word d.ours o h ∙ ap (λ u. u.has (k * w + o)) d.before
      ∙ ap (λ b. cond b ((combined f s t).has (k * w + o)) (s.has (k * w + o)))
      (le-ltb (k * w + o) (k * w) (omega arith))

  -- r, read in the order, is word k of the result
  pub made : (o : ℕ) → o < w → (read_in m w (bit_set w r)).has o ≡ (combined f s t).has (k * w + o)
  made o h =
      ap (λ u. u.has o) (word_combined f w x y r m d.word d.is)
      ∙ combination-below f (read_in m w (bit_set w x)) (read_in m w (bit_set w y)) o h h
      ∙ ap (λ b. f b ((read_in m w (bit_set w y)).has o)) (was o h)
      ∙ ap (f (s.has (k * w + o))) (ap (λ u. u.has o) d.theirs ∙ word_has-at w t k o h)
      ∙ sym (combined_below f s t (k * w + o) (omega (arith, d.ends)))

  -- where the two differ, by the word of their exclusive or
  module _ (z : ℕ) (differ : z ≡ bit_xor r x) (fits : z < 2 ^ w) where
    parts : (o : ℕ) → o < w → (read_in m w (bit_set w z)).has o
        ≡ just_one ((combined f s t).has (k * w + o)) (s.has (k * w + o))
    parts o h =
        ap (λ u. u.has o) (word_combined just_one w r x z m d.word
        (ap (bit_set w) differ ∙ digits_just_one w r x))
        ∙ combination-below just_one (read_in m w (bit_set w r)) (read_in m w (bit_set w x)) o h h
        ∙ (λ j. just_one (made o h j) (was o h j))

    unlike : (a b : Bool) → just_one a b ≡ true → a ≡ not b
    unlike true b e = sym e
    unlike false b e = sym (ap not e)

    alike : (a b : Bool) → just_one a b ≡ false → a ≡ b
    alike true b e = sym (not-false b e)
    alike false b e = sym e

    -- if b is told of the words before word k, c is told of the words up to word k
    pub tells_more : (b c : Bool) → c ≡ (b || not (z == 0)) →
        TellsBelow (combined f s t).has s (k * w) b →
        TellsBelow (combined f s t).has s ((k + 1) * w) c
    tells_more true c e told = rw e (told.0, omega (arith, told.1), told.2)
    tells_more false c e told =
        elim (cases_eq z 0) [
          | inl none ↦
              rw (e ∙ ap not (eq-eqb z 0 none)) (λ i h. elim (cases_lt i (k * w)) [
                | inl l ↦ told i l
                | inr g ↦
                    let o = i - k * w in
                    let at : k * w + o ≡ i = omega (arith, g) in
                    let low : o < w = omega (arith, g, h) in
                    ap (combined f s t).has (sym at)
                    ∙ alike _ _ (sym (parts o low)
                    ∙ ap (λ p. p (place m w o)) (bit_has-zero w z none))
                    ∙ ap s.has at
              ])
          | inr some ↦
              let p = some_digit w z fits some in
              let inside = bit_has-below w z p.0 p.1 in
              let o = place m w p.0 in
              let low = place_in_word m w p.0 inside in
              rw (e ∙ ap not (ne_eqb z 0 some)) (
                k * w + o,
                omega (arith, low),
                unlike _ _ (sym (parts o low)
                    ∙ ap (bit_has w z) (place-place m w p.0 d.word) ∙ p.1),
              )
        ]

-- if `TellsBelow` holds up to the capacity, b is whether the operation changed the set
pub tells_all : (f : Bool → Bool → Bool) (n : ℕ) (b : Bool) (s t after : PlainSet) →
    s.capacity ≤ n → ((i : ℕ) → s.capacity ≤ i → s.has i ≡ false) →
    after ≡ combined f s t → TellsBelow (combined f s t).has s n b →
    MatchBool b (Differ s after) (after ≡ s)
tells_all f n true s t after far past is told =
    let i = told.0 in
    elim (cases_lt i s.capacity) [
      | inl l ↦ (i, l, ap (λ u. u.has i) is ∙ told.2)
      | inr g ↦ absurd (true≢false (sym (sym (combined_past f s t i g) ∙ told.2
          ∙ ap not (past i g))))
    ]
tells_all f n false s t after far past is told =
    is ∙ ap (plain_set s.capacity) (fun_ext λ i. elim (cases_lt i s.capacity) [
      | inl l ↦ told i (omega (arith, l, far))
      | inr g ↦ combined_past f s t i g ∙ sym (past i g)
    ])

-- b is true exactly if the two sets differ; if it is false, they are equal
pub told_where : (b : Bool) (s t : PlainSet) → MatchBool b (Differ s t) (t ≡ s) →
    IsTrue b ↔ Differ s t
told_where true s t told = (λ _. told, λ _. refl)
told_where false s t told = (
  λ said. absurd (true≢false (sym said)),
  λ differ. absurd (itself (s.has differ.0) (sym (ap (λ u. u.has differ.0) told) ∙ differ.2)),
)
  where
    itself : (b : Bool) → b ≡ not b → ⊥
    itself true e = true≢false e
    itself false e = true≢false (sym e)

pub told_same : (b : Bool) (s t : PlainSet) → MatchBool b (Differ s t) (t ≡ s) → b ≡ false → t ≡ s
told_same true s t told said = absurd (true≢false said)
told_same false s t told said = told
