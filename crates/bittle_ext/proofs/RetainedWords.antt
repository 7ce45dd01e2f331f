-- A word in the middle of `retain`: the closure was called for some of its bits, which are kept or
-- cleared.
use Rattle.std.proofs.Common.{◌≡◌, ℕ, ◌+◌, ◌-◌, ◌*◌, ◌/◌, ◌%◌, ◌<◌, ◌≤◌, Bool, true, false, not}
use Rattle.std.proofs.Common.{◌&&◌, ◌||◌, ◌==◌, [], ◌∷◌, Some, inl, inr, refl, sym, ap, ◌∙◌, arith}
use Rattle.std.proofs.Math.Bool.{or-false, or-true}
use Rattle.std.proofs.Math.Nat.{mul-le-mul_right}
use Rattle.std.proofs.lemmas.Nat.{div-mul-add, mod_below}
use Rattle.std.proofs.lemmas.Bool.{cases_eq, cases_lt, eq-eqb, ne_eqb, true≢false}
use Rattle.bittle.specs.BitPatterns.{bit_set}
use Rattle.bittle.specs.Orders.{read_in}
use Rattle.bittle.specs.PlainSet.{PlainSet, ascending, without_index, IsLeastMember}
use Rattle.bittle.specs.Searches.{IsFirstIn, NoneIn}
use Rattle.bittle.specs.SetOperations.{combination_of, just_one}
use Rattle.bittle.specs.Words.{ReplacesWord, word_of}
use Rattle.bittle_bits.proofs.AscendingLists.{ascending_from-agree, end-taken}
use Rattle.bittle_bits.proofs.BitSets.{bit_has-zero}
use Rattle.bittle_bits.proofs.PlainSets.{plain_set}
use Rattle.bittle_bits.proofs.SetOperations.{combination-below}
use Rattle.bittle_bits.proofs.Words.{digit_at}
use Rattle.bittle.proofs.CallerLists.{ascending_first, ascending_none}
use Rattle.bittle.proofs.CallerSets.{without_index_within}
use Rattle.bittle_ext.proofs.WordsReplaced.{place_in, in_word, in_others}

-- a word of a set ends at or below the capacity
pub word_inside : (w k words c d : ℕ) → words * w ≡ c → d ≡ c → k < words → k * w + w ≤ d
word_inside w k words c d whole same low =
    let up : (k + 1) * w ≤ words * w = mul-le-mul_right w (omega (arith, low)) in
    omega (arith, up, whole, same)

-- ---- the least bit, taken out of a word

-- i is the least bit of the word p, and q is p without it
pub record IsPopped (w i : ℕ) (p q : ℕ → Bool) : Type 0 where
  pub inside : i < w
  pub is : p i ≡ true
  pub least : (o : ℕ) → o < i → p o ≡ false
  pub gone : q i ≡ false
  pub others : (o : ℕ) → o < w → (o ≡ i → ⊥) → q o ≡ p o

-- the increasing list of the bits begins with the bit that is taken out
pub popped : (w i : ℕ) (p q : ℕ → Bool) →
    ascending (plain_set w p) ≡ i ∷ ascending (plain_set w q) → IsPopped w i p q
popped w i p q taken =
    let s = plain_set w p in
    let first = ascending_first s i (ascending (plain_set w q)) taken in
    let least : IsLeastMember s i = record {
      within = omega (arith, first.1);
      none_below = λ o h. first.3 o (omega arith) h;
      is_member = λ _. first.2;
    } in
    let same = end-taken true s (without_index s i) i i least first.1 refl refl in
    let left : ascending (plain_set w q) ≡ ascending (without_index s i) = cc in
    let each : (o : ℕ) → o < w → q o ≡ not (o == i) && p o = λ o h.
    ascending_from-agree q (without_index s i).has 0 w left o (omega arith) (omega arith)
    ∙ ap (λ (t : PlainSet). t.has o) (without_index_within s i first.1) in
    record {
      inside = first.1;
      is = first.2;
      least = λ o h. first.3 o (omega arith) h;
      gone = each i first.1 ∙ ap (λ b. not b && p i) (eq-eqb i i refl);
      others = λ o h n. each o h ∙ ap (λ b. not b && p o) (ne_eqb o i n);
    }

-- d, in union with the difference of a word and that word without its least bit, has that bit too
pub one_more : (w i : ℕ) (a b d e r : PlainSet) → a.capacity ≡ w → b.capacity ≡ w →
    d.capacity ≡ w → IsPopped w i a.has b.has → e ≡ combination_of just_one a b →
    r ≡ combination_of ◌||◌ d e → (o : ℕ) → o < w → r.has o ≡ ((o == i) || d.has o)
one_more w i a b d e r first second third pop lost is o h =
    let wide : e.capacity ≡ w = ap (λ (u : PlainSet). u.capacity) lost ∙ first in
    let bit : e.has o ≡ just_one (a.has o) (b.has o) = ap (λ (u : PlainSet). u.has o) lost
    ∙ combination-below just_one a b o (omega (arith, h, first)) (omega (arith, h, second)) in
    ap (λ (u : PlainSet). u.has o) is
    ∙ combination-below ◌||◌ d e o (omega (arith, h, third)) (omega (arith, h, wide))
    ∙ ap (λ t. d.has o || t) bit
    ∙ elim (cases_eq o i) [
      | inl same ↦ rw (same, pop.is, pop.gone, eq-eqb i i refl) (or-true (d.has i))
      | inr n ↦ rw (pop.others o h n, ne_eqb o i n) (by (a.has o) (d.has o))
    ]
  where
    by : (b c : Bool) → c || just_one b b ≡ c
    by true c = or-false c
    by false c = or-false c

-- a word whose list of bits is empty has no bit set
pub none_left : (w : ℕ) (p : ℕ → Bool) → ascending (plain_set w p) ≡ [] → (o : ℕ) → o < w →
    p o ≡ false
none_left w p empty o h = ascending_none (plain_set w p) empty o (omega arith) h

-- ---- a word of which some bits have been asked for

-- Word k of t has the bits of `kept` and `rest`, and its other words are those of s. The bits of
-- `kept` are below `from`, and those of `rest` are not.
pub record IsHalfway (w k : ℕ) (kept rest : ℕ → Bool) (s t : PlainSet) (from : ℕ) : Type 0 where
  pub capacity : t.capacity ≡ s.capacity
  pub begins : k * w ≤ from
  pub ends : from ≤ k * w + w
  pub here : (o : ℕ) → o < w → t.has (k * w + o) ≡ (kept o || rest o)
  pub others : (i : ℕ) → (i / w ≡ k → ⊥) → t.has i ≡ s.has i
  pub kept_below : (o : ℕ) → o < w → from ≤ k * w + o → kept o ≡ false
  pub rest_above : (o : ℕ) → o < w → k * w + o < from → rest o ≡ false

-- at first `kept` is empty, and `rest` is the word
pub halfway_none : (m : Bool) (w k d r x : ℕ) (s : PlainSet) → 0 < w → d ≡ 0 →
    bit_set w r ≡ word_of w s k → bit_set w x ≡ read_in m w (bit_set w r) →
    IsHalfway w k (bit_set w d).has (bit_set w x).has (read_in m w s) (read_in m w s) (k * w)
halfway_none m w k d r x s word none is ordered =
    let empty : (o : ℕ) → (bit_set w d).has o ≡ false =
    λ o. ap (λ p. p o) (bit_has-zero w d none) in
    record {
      capacity = refl;
      begins = omega arith;
      ends = omega arith;
      here = λ o h. sym (digit_at m w k s r word is o h)
          ∙ sym (ap (λ (u : PlainSet). u.has o) ordered)
          ∙ sym (ap (λ b. b || (bit_set w x).has o) (empty o));
      others = λ i n. refl;
      kept_below = λ o h l. empty o;
      rest_above = λ o h l. absurd (omega arith);
    }

module _ (w k : ℕ) (kept rest : ℕ → Bool) (s t : PlainSet) (from : ℕ) (word : 0 < w)
    (so_far : IsHalfway w k kept rest s t from) where
  module _ (i : ℕ) (less : ℕ → Bool) (pop : IsPopped w i rest less) where
    not_before : from ≤ k * w + i
    not_before = elim (cases_lt (k * w + i) from) [
      | inl l ↦ absurd (true≢false (sym pop.is ∙ so_far.rest_above i pop.inside l))
      | inr g ↦ g
    ]

    -- the bit that is taken out is the next member
    pub found_next : k * w + w ≤ t.capacity → IsFirstIn t from t.capacity (Some (k * w + i))
    found_next far = (
      not_before,
      omega (arith, far, pop.inside),
      so_far.here i pop.inside ∙ ap (λ b. b || rest i) (so_far.kept_below i pop.inside not_before)
          ∙ pop.is,
      λ j lo hi.
          let o = j - k * w in
          let at : j ≡ k * w + o = omega (arith, so_far.begins, lo) in
          let low : o < i = omega (arith, at, hi) in
          let inside : o < w = omega (arith, low, pop.inside) in
          ap t.has at ∙ so_far.here o inside
          ∙ ap (λ b. b || rest o) (so_far.kept_below o inside (omega (arith, at, lo)))
          ∙ pop.least o low,
    )

    rest_later : (o : ℕ) → o < w → k * w + o < k * w + i + 1 → less o ≡ false
    rest_later o h l = elim (cases_eq o i) [
      | inl e ↦ ap less e ∙ pop.gone
      | inr n ↦ pop.others o h n ∙ pop.least o (omega (arith, l, n))
    ]

    -- after the bit is kept, the set stays as it is, and `kept` has that bit too
    pub halfway_kept : (more : ℕ → Bool) →
        ((o : ℕ) → o < w → more o ≡ ((o == i) || kept o)) →
        IsHalfway w k more less s t (k * w + i + 1)
    halfway_kept more is = record {
      capacity = so_far.capacity;
      begins = omega arith;
      ends = omega (arith, pop.inside);
      here = λ o h. so_far.here o h ∙ elim (cases_eq o i) [
        | inl e ↦ ap (λ b. b || rest o) (so_far.kept_below o h (omega (arith, not_before, e)))
            ∙ ap rest e ∙ pop.is ∙ sym (ap (λ b. b || less o) (is o h
            ∙ ap (λ b. b || kept o) (eq-eqb o i e)))
        | inr n ↦ sym (ap (λ b. b || less o) (is o h ∙ ap (λ b. b || kept o) (ne_eqb o i n))
            ∙ ap (λ b. kept o || b) (pop.others o h n))
      ];
      others = so_far.others;
      kept_below = λ o h l. is o h
          ∙ ap (λ b. b || kept o) (ne_eqb o i (λ e. absurd (omega (arith, e, l))))
          ∙ so_far.kept_below o h (omega (arith, not_before, l));
      rest_above = rest_later;
    }

    -- if the bit is not kept, it is removed from the set
    pub halfway_gone : k * w + w ≤ t.capacity →
        IsHalfway w k kept less s (without_index t (k * w + i)) (k * w + i + 1)
    halfway_gone far =
        let has : (j : ℕ) → (without_index t (k * w + i)).has j ≡ not (j == k * w + i) && t.has j =
        λ j. ap (λ (u : PlainSet). u.has j)
        (without_index_within t (k * w + i) (omega (arith, far, pop.inside))) in
        let same : (j : ℕ) → (j ≡ k * w + i → ⊥) →
        (without_index t (k * w + i)).has j ≡ t.has j = λ j n.
        has j ∙ ap (λ b. not b && t.has j) (ne_eqb j (k * w + i) n) in
        record {
          capacity = so_far.capacity;
          begins = omega arith;
          ends = omega (arith, pop.inside);
          here = λ o h. elim (cases_eq o i) [
            | inl e ↦ has (k * w + o) ∙ ap (λ b. not b && t.has (k * w + o))
                (eq-eqb (k * w + o) (k * w + i) (ap (λ n. k * w + n) e))
                ∙ sym (ap (λ b. b || less o) (so_far.kept_below o h (omega (arith, not_before, e)))
                ∙ ap less e ∙ pop.gone)
            | inr n ↦ same (k * w + o) (λ e. n (omega (arith, e))) ∙ so_far.here o h
                ∙ ap (λ b. kept o || b) (sym (pop.others o h n))
          ];
          others = λ j n. same j (λ e. n (ap (λ d. d / w) e ∙ div-mul-add k w i pop.inside))
              ∙ so_far.others j n;
          kept_below = λ o h l. so_far.kept_below o h (omega (arith, not_before, l));
          rest_above = rest_later;
        }

  -- where no bit is left, none of the word is from there on
  module _ (none : (o : ℕ) → o < w → rest o ≡ false) where
    pub halfway_past : NoneIn t from (k * w + w)
    halfway_past j lo hi =
        let o = j - k * w in
        let at : j ≡ k * w + o = omega (arith, so_far.begins, lo) in
        let inside : o < w = omega (arith, at, hi) in
        ap t.has at ∙ so_far.here o inside
        ∙ ap (λ b. b || rest o) (so_far.kept_below o inside (omega (arith, at, lo)))
        ∙ none o inside

    kept_all : (o : ℕ) → o < w → t.has (k * w + o) ≡ kept o
    kept_all o h = so_far.here o h ∙ ap (λ b. kept o || b) (none o h) ∙ or-false (kept o)

-- once `rest` is empty and `kept` replaces the word, the set is t
pub halfway_all : (m : Bool) (w k d r from : ℕ) (rest : ℕ → Bool) (s after t : PlainSet) → 0 < w →
    (words : ℕ) × (s.capacity ≡ words * w) → ((i : ℕ) → s.capacity ≤ i → s.has i ≡ false) →
    ((i : ℕ) → after.capacity ≤ i → after.has i ≡ false) →
    IsHalfway w k (bit_set w d).has rest (read_in m w s) t from →
    ((o : ℕ) → o < w → rest o ≡ false) → ReplacesWord w s k (bit_set w r) after →
    read_in m w (bit_set w r) ≡ bit_set w d → t ≡ read_in m w after
halfway_all m w k d r from rest s after t word whole past also so_far none is ordered =
    let each : (i : ℕ) → t.has i ≡ (read_in m w after).has i = λ i. elim (cases_eq (i / w) k) [
      | inl e ↦ ap t.has (sym (place_in w k i e))
          ∙ kept_all w k _ rest (read_in m w s) t from word so_far none (i % w) (mod_below i w word)
          ∙ sym (in_word m w k r s after word whole past also is i e
          ∙ ap (λ (u : PlainSet). u.has (i % w)) ordered)
      | inr n ↦ so_far.others i n ∙ sym (in_others m w k r s after word whole past also is i n)
    ] in
    λ j. plain_set ((so_far.capacity ∙ sym is.capacity) j) (λ i. each i j)
