-- Sets after one bit was changed in its word.
use Rattle.std.proofs.Common.{◌≡◌, ℕ, ◌+◌, ◌-◌, ◌*◌, ◌/◌, ◌%◌, ◌^◌, ◌<◌, ◌≤◌, Bool, true, false}
use Rattle.std.proofs.Common.{cond, not, ◌&&◌, ◌||◌, ◌==◌, nat_lt, inl, inr, refl, sym, ap, ◌∙◌}
use Rattle.std.proofs.Common.{arith}
use Rattle.std.proofs.Math.Bool.{and-true, or-false, or-true}
use Rattle.std.proofs.Math.Path.{fun_ext}
use Rattle.std.proofs.lemmas.Nat.{div-add-mod', div_below, mod_below}
use Rattle.std.proofs.lemmas.Bool.{and_right, cases_eq, cases_lt, eq-eqb, lt-ltb, ne_eqb}
use Rattle.std.proofs.lemmas.Bool.{true≢false}
use Rattle.bittle.specs.BitPatterns.{bit_has, bit_set}
use Rattle.bittle.specs.SetOperations.{combination_of, first_alone}
use Rattle.bittle.specs.Walk.{ones_or_zeros}
use Rattle.bittle.specs.Words.{word_of, ReplacesWord}
use Rattle.bittle_bits.proofs.OnesOrZeros.{ones_or_zeros-word_of}
use Rattle.bittle_bits.proofs.PlaceLemmas.{place_in_word}
use Rattle.bittle_bits.proofs.PlainSets.{plain_set, contains_in, has_with-in}
use Rattle.bittle_bits.proofs.SetOperations.{combination-below}
use Rattle.bittle_bits.proofs.WordOperations.{word_combined}
use Rattle.bittle_bits.proofs.Words.{digit_at}
use Rattle.bittle.specs.Orders.{place, read_in}
use Rattle.bittle.specs.PlainSet.{PlainSet, complement, contains, empty_set, has_with, has_without}
use Rattle.bittle.specs.PlainSet.{lacks, with_index, IsLeastMember}
use Rattle.bittle.proofs.CallerSets.{contains_within, with_index_within, without_index_within}
use Rattle.bittle_ext.specs.Changes.{with_index_assigned}
use Rattle.bittle_ext.proofs.RotatedSets.{contains_as}
use Rattle.bittle_ext.proofs.RetainedWords.{word_inside, IsPopped}
use Rattle.bittle_ext.proofs.WordsReplaced.{place_in, in_word, in_others}

-- after index i was assigned a value, i has this value, and each other number is as in s
assigned_within : (s : PlainSet) (i : ℕ) (value : Bool) → i < s.capacity →
    with_index_assigned s i value
    ≡ plain_set s.capacity (λ n. cond (n == i) value (s.has n))
assigned_within s i true h = with_index_within s i h
    ∙ ap (plain_set s.capacity) (fun_ext λ n. elim (n == i) as (λ e. e || s.has n
    ≡ cond e true (s.has n)) [ true ↦ refl | false ↦ refl ])
assigned_within s i false h = without_index_within s i h
    ∙ ap (plain_set s.capacity) (fun_ext λ n. elim (n == i) as (λ e. not e && s.has n
    ≡ cond e false (s.has n)) [ true ↦ refl | false ↦ refl ])

-- d is word k of a set, and the word in which index i lies
pub record HoldsIndex (m : Bool) (w k i d : ℕ) (s : PlainSet) : Type 0 where
  pub word : 0 < w
  pub where_is : k ≡ i / w
  pub within : i < s.capacity
  pub ours : bit_set w d ≡ word_of w s k

-- the word whose number is the index divided by the width holds the index
pub holds_index : (m : Bool) (w v i d : ℕ) (s : PlainSet) → 0 < w → v ≡ w → i < s.capacity →
    bit_set w d ≡ word_of w s (i / v) → HoldsIndex m w (i / v) i d s
holds_index m w v i d s word is within ours = record {
  word = word;
  where_is = ap (λ n. i / n) is;
  within = within;
  ours = ours;
}

-- r is the word d in which the operation decides about the place of index i, and t is the set with
-- r in the place of that word
pub record CombinesIndex (f : Bool → Bool → Bool) (m : Bool) (w k i d r : ℕ) (s t : PlainSet) :
    Type 0 where
  pub keeps : (b : Bool) → f b false ≡ b
  pub is : (o : ℕ) → o < w → (read_in m w (bit_set w r)).has o
      ≡ f ((read_in m w (bit_set w d)).has o) (o == i % w)
  pub replaced : ReplacesWord w s k (bit_set w r) t

-- an operation on a word and the word that has index i alone decides about the place of i
pub combined_alone : (f : Bool → Bool → Bool) (m : Bool) (w i d mask r : ℕ) → 0 < w →
    read_in m w (bit_set w mask) ≡ with_index (empty_set w) i →
    bit_set w r ≡ combination_of f (bit_set w d) (bit_set w mask) → (o : ℕ) → o < w →
    (read_in m w (bit_set w r)).has o ≡ f ((read_in m w (bit_set w d)).has o) (o == i % w)
combined_alone f m w i d mask r word one is o h =
    ap (λ u. u.has o) (word_combined f w d mask r m word is)
    ∙ combination-below f (read_in m w (bit_set w d)) (read_in m w (bit_set w mask)) o h h
    ∙ ap (f ((read_in m w (bit_set w d)).has o)) (ap (λ u. u.has o) one
    ∙ ap (λ p. p o) (has_with-in (empty_set w) w i refl word) ∙ or-false (o == i % w))

-- a bit that loses its kind (if the second flag is true), or stays: it is cleared if its kind is
-- that of the set bits, and set if it is that of the unset bits
abbrev pub flipped : Bool → Bool → Bool → Bool
flipped true = first_alone
flipped false = ◌||◌

-- a bit whose kind is not asked for stays
pub flipped_keeps : (ones b : Bool) → flipped ones b false ≡ b
flipped_keeps true b = and-true b
flipped_keeps false b = or-false b

-- a bit of the kind becomes one of the other kind
pub flipped_changes : (ones b : Bool) → flipped ones b true ≡ not ones
flipped_changes true b = and_right b false refl
flipped_changes false b = or-true b

-- a word without its least bit is that word with the place of this bit taken out
taken_alone : (w j : ℕ) (p q : ℕ → Bool) → IsPopped w j p q → (o : ℕ) → o < w →
    q o ≡ first_alone (p o) (o == j)
taken_alone w j p q pop o h = elim (cases_eq o j) [
  | inl e ↦ ap q e ∙ pop.gone ∙ sym (ap (λ b. p o && not b) (eq-eqb o j e)
      ∙ and_right (p o) false refl)
  | inr n ↦ pop.others o h n ∙ sym (ap (λ b. p o && not b) (ne_eqb o j n) ∙ and-true (p o))
]

-- e has the bits of d that are of a kind: a place of e is set exactly if d has a bit of the kind
-- there
kind_digit : (ones m : Bool) (w d e o : ℕ) → bit_set w e
    ≡ ones_or_zeros ones (bit_set w d) → o < w →
    (read_in m w (bit_set w e)).has o ≡ cond ones ((read_in m w (bit_set w d)).has o)
    (not ((read_in m w (bit_set w d)).has o))
unfolding lacks
kind_digit true m w d e o is h = ap (λ u. u.has (place m w o)) is
kind_digit false m w d e o is h =
    ap (λ u. u.has (place m w o)) is
    ∙ ap (λ b. b && not (bit_has w d (place m w o))) (lt-ltb _ _ (place_in_word m w o h))

-- e has the bits of d that are of a kind, loses its least one, and r has the rest of that kind:
-- then r is d with the bit at that place flipped
pub flipped_alone : (ones m : Bool) (w j d e rest r : ℕ) →
    bit_set w e ≡ ones_or_zeros ones (bit_set w d) →
    bit_set w r ≡ ones_or_zeros ones (bit_set w rest) →
    IsPopped w j (read_in m w (bit_set w e)).has (read_in m w (bit_set w rest)).has → (o : ℕ) →
    o < w → (read_in m w (bit_set w r)).has o
    ≡ flipped ones ((read_in m w (bit_set w d)).has o) (o == j)
flipped_alone true m w j d e rest r first last pop o h =
    kind_digit true m w rest r o last h ∙ taken_alone w j _ _ pop o h
    ∙ ap (λ b. b && not (o == j)) (kind_digit true m w d e o first h)
flipped_alone false m w j d e rest r first last pop o h =
    kind_digit false m w rest r o last h
    ∙ ap not (taken_alone w j _ _ pop o h
    ∙ ap (λ b. b && not (o == j)) (kind_digit false m w d e o first h))
    ∙ either ((read_in m w (bit_set w d)).has o) (o == j)
  where
    either : (a b : Bool) → not (not a && not b) ≡ a || b
    either true true = refl
    either true false = refl
    either false true = refl
    either false false = refl

-- the bits of a kind in the word that holds an index hold it in the set of the bits of that kind
pub holds_kind : (ones m : Bool) (w k i d e : ℕ) (s : PlainSet) → HoldsIndex m w k i d s →
    bit_set w e ≡ ones_or_zeros ones (bit_set w d) → (words : ℕ) × (s.capacity ≡ words * w) →
    HoldsIndex m w k i e (ones_or_zeros ones s)
holds_kind true m w k i d e s at is whole = record {
  word = at.word;
  where_is = at.where_is;
  within = at.within;
  ours = is ∙ at.ours;
}
holds_kind false m w k i d e s at is whole = record {
  word = at.word;
  where_is = at.where_is;
  within = at.within;
  ours = is ∙ ap complement at.ours
      ∙ ones_or_zeros-word_of false w k s (word_inside w k whole.0 s.capacity s.capacity
      (sym whole.1) refl (omega (
        arith,
        at.where_is,
        div_below i w whole.0 at.word
            (omega (arith, at.within, whole.1)),
      )));
}

module _ {m : Bool} {w k i d : ℕ} {s : PlainSet} (at : HoldsIndex m w k i d s) where
  -- the index, from the start of its word on
  at_index : k * w + i % w ≡ i
  at_index = rw at.where_is (div-add-mod' i w)

  -- the word, read in the order, has the index exactly if the set has it
  pub contained_in_word : contains (read_in m w (bit_set w d)) i ≡ contains (read_in m w s) i
  contained_in_word =
      contains_in (read_in m w (bit_set w d)) w i refl at.word
      ∙ digit_at m w k s d at.word at.ours (i % w) (mod_below i w at.word)
      ∙ ap (read_in m w s).has at_index ∙ sym (contains_within (read_in m w s) i at.within)

  -- the index is the least member of the set
  module _ (least : IsLeastMember (read_in m w s) i) where
    pub has_place : (read_in m w (bit_set w d)).has (i % w) ≡ true
    has_place = digit_at m w k s d at.word at.ours (i % w) (mod_below i w at.word)
        ∙ ap (read_in m w s).has at_index ∙ least.is_member at.within

    -- so its place is the least bit of the word
    pub least_place : (j : ℕ) (q : ℕ → Bool) → IsPopped w j (read_in m w (bit_set w d)).has q →
        j ≡ i % w
    least_place j q pop = elim (cases_lt j (i % w)) [
      | inl l ↦ absurd (true≢false (sym pop.is
          ∙ digit_at m w k s d at.word at.ours j pop.inside
          ∙ least.none_below (k * w + j) (omega (arith, l, at_index))))
      | inr g ↦ elim (cases_lt (i % w) j) [
        | inl l ↦ absurd (true≢false (sym has_place ∙ pop.least (i % w) l))
        | inr g' ↦ omega (arith, g, g')
      ]
    ]

  module _ {f : Bool → Bool → Bool} {r : ℕ} {t : PlainSet}
      (new : CombinesIndex f m w k i d r s t) where
    abbrev before : PlainSet
    before = read_in m w s

    -- the set with the word replaced is the set with that one index changed
    pub bit_combined : (whole : (words : ℕ) × (s.capacity ≡ words * w)) →
        ((n : ℕ) → s.capacity ≤ n → s.has n ≡ false) →
        ((n : ℕ) → t.capacity ≤ n → t.has n ≡ false) →
        read_in m w t ≡ with_index_assigned before i (f (contains before i) true)
    bit_combined whole past also =
        let value = f (contains before i) true in
        -- a number of the word is decided
        let decided : (n : ℕ) → n / w ≡ k →
        (read_in m w t).has n ≡ f (before.has n) (n % w == i % w) = λ n e.
        let o = n % w in
        let h = mod_below n w at.word in
        in_word m w k r s t at.word whole past also new.replaced n e ∙ new.is o h
        ∙ ap (λ b. f b (o == i % w)) (digit_at m w k s d at.word at.ours o h
        ∙ ap before.has (place_in w k n e)) in
        let each : (n : ℕ) → (read_in m w t).has n ≡ cond (n == i) value (before.has n) = λ n.
        elim (cases_eq n i) [
          | inl e ↦ decided n (ap (λ j. j / w) e ∙ sym at.where_is)
              ∙ ap (f (before.has n)) (eq-eqb (n % w) (i % w) (ap (λ j. j % w) e))
              ∙ ap (λ j. f (before.has j) true) e
              ∙ ap (λ b. f b true) (sym (contains_within before i at.within))
              ∙ sym (ap (λ b. cond b value (before.has n)) (eq-eqb n i e))
          | inr other ↦ elim (cases_eq (n / w) k) [
            | inl e ↦ decided n e ∙ ap (f (before.has n)) (ne_eqb (n % w) (i % w)
                (λ z. other (sym (place_in w k n e) ∙ ap (λ o. k * w + o) z ∙ at_index)))
                ∙ new.keeps (before.has n)
            | inr apart ↦ in_others m w k r s t at.word whole past also new.replaced n apart
          ] ∙ sym (ap (λ b. cond b value (before.has n)) (ne_eqb n i other))
        ] in
        (λ j. plain_set (new.replaced.capacity j) (λ n. each n j))
        ∙ sym (assigned_within before i value at.within)

-- an index that wraps to another one is assigned as that is
assigned_as : (s : PlainSet) (i j : ℕ) (value : Bool) → i % s.capacity ≡ j % s.capacity →
    with_index_assigned s i value ≡ with_index_assigned s j value
unfolding has_with has_without
assigned_as s i j true e =
    let some = nat_lt 0 s.capacity in
    ap (λ n. plain_set s.capacity (λ k. (some && (k == n)) || s.has k)) e
assigned_as s i j false e =
    let some = nat_lt 0 s.capacity in
    ap (λ n. plain_set s.capacity (λ k. not (some && (k == n)) && s.has k)) e

-- two indexes that wrap to the same one give the same result
pub combined_as : (f : Bool → Bool → Bool) (s : PlainSet) (i j : ℕ) →
    i % s.capacity ≡ j % s.capacity → with_index_assigned s i (f (contains s i) true)
    ≡ with_index_assigned s j (f (contains s j) true)
combined_as f s i j e =
    assigned_as s i j (f (contains s i) true) e
    ∙ ap (λ b. with_index_assigned s j (f b true)) (contains_as s i j e)
