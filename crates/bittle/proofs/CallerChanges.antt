-- Facts on a set after a change that callers cite: tests of an index, and the size.
use Rattle.std.proofs.Common.{◌≡◌, ◌≢◌, ℕ, zero, suc, ◌+◌, ◌-◌, ◌%◌, ◌<◌, ◌≤◌, ◌⊎◌, Bool, true}
use Rattle.std.proofs.Common.{false, not, cond, ◌&&◌, ◌||◌, ◌==◌, nat_lt, inl, inr, refl, sym, ap}
use Rattle.std.proofs.Common.{◌∙◌, arith}
use Rattle.std.proofs.Common.{add-zero}
use Rattle.std.proofs.Math.Nat.{add-mod_right}
use Rattle.std.proofs.lemmas.Nat.{mod_below}
use Rattle.std.proofs.lemmas.Bool.{and_parts, cases_eq, eq-eqb, ne_eqb, lt-ltb, true≢false}
use Rattle.bittle_bits.specs.PlainSet.{PlainSet, contains, with_index, has_with, without_index}
use Rattle.bittle_bits.specs.PlainSet.{has_without, with_span_changed, has_changed, with_span}
use Rattle.bittle_bits.specs.PlainSet.{without_span, count_below, members_below, size}
pub use Rattle.bittle_bits.proofs.ChangedBits.{contains_after_clear, contains_after_set}
pub use Rattle.bittle_bits.proofs.ChangedBits.{contains_with, contains_without}
use Rattle.bittle_bits.proofs.Counts.{count-add, count-never, count-others, count-same}
use Rattle.bittle_bits.proofs.MembersBelow.{below_between}
use Rattle.bittle_bits.proofs.Spans.{inside_span, outside_span}
use Rattle.bittle.proofs.CallerSets.{contains_within, with_index_within, without_index_within}

-- putting in an index does not change the test of another one
pub contains_with_other : (s : PlainSet) (i j : ℕ) → i < s.capacity → j < s.capacity → j ≢ i →
    contains (with_index s i) j ≡ contains s j
contains_with_other s i j h k apart =
    contains_within (with_index s i) j k
    ∙ ap (λ t. t.has j) (with_index_within s i h)
    ∙ ap (λ b. b || s.has j) (ne_eqb j i apart)
    ∙ sym (contains_within s j k)

-- taking out an index does not change the test of another one
pub contains_without_other : (s : PlainSet) (i j : ℕ) → i < s.capacity → j < s.capacity → j ≢ i →
    contains (without_index s i) j ≡ contains s j
contains_without_other s i j h k apart =
    contains_within (without_index s i) j k
    ∙ ap (λ t. t.has j) (without_index_within s i h)
    ∙ ap (λ b. not b && s.has j) (ne_eqb j i apart)
    ∙ sym (contains_within s j k)

-- an index plus the capacity wraps to the same index
pub contains_turned : (s : PlainSet) (i : ℕ) → contains s (i + s.capacity) ≡ contains s i
unfolding contains
contains_turned s i = ap (λ k. nat_lt 0 s.capacity && s.has k) (add-mod_right i s.capacity)

-- if two tests of the numbers below c differ at just one number, the count of the test that this
-- number passes is one more than that of the other
count_one_more : (c i : ℕ) (s t : ℕ → Bool) → i < c → s i ≡ false → t i ≡ true →
    ((k : ℕ) → k ≢ i → t k ≡ s k) → count_below c t ≡ count_below c s + 1
unfolding count_below
count_one_more zero i s t h none some same = absurd (omega arith)
count_one_more (suc c) i s t h none some same =
    elim (cases_eq c i) [
      | inl e ↦
          let rest = count-same c t s (λ k l. same k (omega arith)) in
          let was : s c ≡ false = ap s e ∙ none in
          let is : t c ≡ true = ap t e ∙ some in
          rw (was, is) (omega (arith, rest))
      | inr n ↦
          let rest = count_one_more c i s t (omega arith) none some same in
          let bit : Bool → ℕ = λ b. cond b 1 0 in
          let last : bit (t c) ≡ bit (s c) = ap bit (same c n) in
          omega (arith, rest, last)
    ]

-- a set with one more number has one more member
pub size_added : (s : PlainSet) (i : ℕ) → i < s.capacity → s.has i ≡ false →
    size (record { capacity = s.capacity; has = λ k. (k == i) || s.has k }) ≡ size s + 1
size_added s i h none =
    count_one_more s.capacity i s.has (λ k. (k == i) || s.has k) h none
    (ap (λ b. b || s.has i) (eq-eqb i i refl)) (λ k n. ap (λ b. b || s.has k) (ne_eqb k i n))

-- a set without one of its members has one member fewer
pub size_removed : (s : PlainSet) (i : ℕ) → i < s.capacity → s.has i ≡ true →
    size s ≡ size (record { capacity = s.capacity; has = λ k. not (k == i) && s.has k }) + 1
size_removed s i h some =
    count_one_more s.capacity i (λ k. not (k == i) && s.has k) s.has h
    (ap (λ b. not b && s.has i) (eq-eqb i i refl)) some
    (λ k n. sym (ap (λ b. not b && s.has k) (ne_eqb k i n)))

-- the size after a new index was put in
pub size_with : (s : PlainSet) (i : ℕ) → i < s.capacity → s.has i ≡ false →
    size (with_index s i) ≡ size s + 1
size_with s i h none = ap size (with_index_within s i h) ∙ size_added s i h none

-- the size before a member was taken out
pub size_without : (s : PlainSet) (i : ℕ) → i < s.capacity → s.has i ≡ true →
    size s ≡ size (without_index s i) + 1
size_without s i h some =
    size_removed s i h some ∙ sym (ap (λ t. size t + 1) (without_index_within s i h))

-- after an index, which may wrap, is put in, the size is one more if the index was no member
pub size_inserted : (s : PlainSet) (i : ℕ) → 0 < s.capacity →
    size (with_index s i) ≡ size s + cond (not (contains s i)) 1 0
unfolding contains has_with
size_inserted s i some = by (s.has j) refl
  where
    j : ℕ
    j = i % s.capacity

    is : nat_lt 0 s.capacity ≡ true
    is = lt-ltb 0 s.capacity some

    each : (k : ℕ) → has_with s i k ≡ ((k == j) || s.has k)
    each k = rw is refl

    with_is : with_index s i ≡ record { capacity = s.capacity; has = λ k. (k == j) || s.has k }
    with_is = λ p. record { capacity = s.capacity; has = λ k. each k p }

    inside : contains s i ≡ s.has j
    inside = rw is refl

    by : (b : Bool) → s.has j ≡ b → size (with_index s i)
        ≡ size s + cond (not (contains s i)) 1 0
    by true e =
        ap size with_is
        ∙ count-same s.capacity (λ k. (k == j) || s.has k) s.has
        (λ k l. elim (cases_eq k j) [
          | inl same ↦ ap (λ b. b || s.has k) (eq-eqb k j same) ∙ sym (ap s.has same ∙ e)
          | inr apart ↦ ap (λ b. b || s.has k) (ne_eqb k j apart)
        ]) ∙ sym (add-zero (size s))
        ∙ ap (λ b. size s + cond (not b) 1 0) (sym (inside ∙ e))
    by false e =
        ap size with_is ∙ size_added s j (mod_below i s.capacity some) e
        ∙ ap (λ b. size s + cond (not b) 1 0) (sym (inside ∙ e))

-- before an index, which may wrap, is taken out, the size is one more if the index is a member
pub size_taken_out : (s : PlainSet) (i : ℕ) → 0 < s.capacity →
    size s ≡ size (without_index s i) + cond (contains s i) 1 0
unfolding contains has_without
size_taken_out s i some = by (s.has j) refl
  where
    j : ℕ
    j = i % s.capacity

    is : nat_lt 0 s.capacity ≡ true
    is = lt-ltb 0 s.capacity some

    each : (k : ℕ) → has_without s i k ≡ (not (k == j) && s.has k)
    each k = rw is refl

    with_is : without_index s i
        ≡ record { capacity = s.capacity; has = λ k. not (k == j) && s.has k }
    with_is = λ p. record { capacity = s.capacity; has = λ k. each k p }

    inside : contains s i ≡ s.has j
    inside = rw is refl

    by : (b : Bool) → s.has j ≡ b →
        size s ≡ size (without_index s i) + cond (contains s i) 1 0
    by true e =
        size_removed s j (mod_below i s.capacity some) e
        ∙ sym (ap (λ t. size t + 1) with_is)
        ∙ ap (λ b. size (without_index s i) + cond b 1 0) (sym (inside ∙ e))
    by false e =
        count-same s.capacity s.has (λ k. not (k == j) && s.has k)
        (λ k l. elim (cases_eq k j) [
          | inl same ↦ ap s.has same ∙ e ∙ sym (ap (λ b. not b && s.has k) (eq-eqb k j same))
          | inr apart ↦ sym (ap (λ b. not b && s.has k) (ne_eqb k j apart))
        ]) ∙ sym (ap size with_is) ∙ sym (add-zero (size (without_index s i)))
        ∙ ap (λ b. size (without_index s i) + cond b 1 0) (sym (inside ∙ e))

-- putting in a member does not change the set
pub with_member : (s : PlainSet) (i : ℕ) → i < s.capacity → s.has i ≡ true → with_index s i ≡ s
with_member s i h some = with_index_within s i h ∙ (λ j. record {
  capacity = s.capacity;
  has = λ k. each k j;
})
  where
    each : (k : ℕ) → ((k == i) || s.has k) ≡ s.has k
    each k = elim (cases_eq k i) [
      | inl e ↦ ap (λ b. b || s.has k) (eq-eqb k i e) ∙ sym (ap s.has e ∙ some)
      | inr n ↦ ap (λ b. b || s.has k) (ne_eqb k i n)
    ]

-- an index of a span is in the set after the span was put in
pub contains_with_span : (s : PlainSet) (from to i : ℕ) → from ≤ i → i < to → i < s.capacity →
    contains (with_span s from to) i ≡ true
contains_with_span s from to i h k l =
    contains_within (with_span s from to) i l
    ∙ inside_span (λ _. true) s from to i h k

-- an index of a span is not in the set after the span was taken out
pub contains_without_span : (s : PlainSet) (from to i : ℕ) → from ≤ i → i < to → i < s.capacity →
    contains (without_span s from to) i ≡ false
contains_without_span s from to i h k l =
    contains_within (without_span s from to) i l
    ∙ inside_span (λ _. false) s from to i h k

-- putting in a span does not change the test of an index outside of it
pub contains_outside_span : (s : PlainSet) (from to i : ℕ) → (i < from) ⊎ (to ≤ i) →
    i < s.capacity → contains (with_span s from to) i ≡ contains s i
contains_outside_span s from to i out l =
    contains_within (with_span s from to) i l
    ∙ outside_span (λ _. true) s from to i out
    ∙ sym (contains_within s i l)

-- the size after a change of a span: the members outside of the span, and those that the change
-- leaves in it
size_changed : (change : Bool → Bool) (s : PlainSet) (from to : ℕ) → from ≤ to → to ≤ s.capacity →
    size (with_span_changed change s from to) + members_below s to
    ≡ size s + members_below s from + count_below (to - from) (λ k. change (s.has (from + k)))
size_changed change s from to h l =
    let here = to - from in
    let past = s.capacity - to in
    let changed = has_changed change s from to in
    let begin : from + here ≡ to = omega arith in
    let all : to + past ≡ s.capacity = omega arith in
    let low = count-same from changed s.has (λ k b. outside_span change s from to k (inl b)) in
    let high = count-same past (λ k. changed (to + k)) (λ k. s.has (to + k))
    (λ k b. outside_span change s from to (to + k) (inr (omega arith))) in
    let inside = count-same here (λ k. changed (from + k)) (λ k. change (s.has (from + k)))
    (λ k b. inside_span change s from to (from + k) (omega arith) (omega arith)) in
    omega (
      arith,
      rw all at (count-add to past changed),
      rw all at (count-add to past s.has),
      rw begin at (count-add from here changed),
      low,
      high,
      inside,
    )

-- the size after a span was put in: the members outside of it, and the span
pub size_with_span : (s : PlainSet) (from to : ℕ) → from ≤ to → to ≤ s.capacity →
    size (with_span s from to)
    ≡ size s - (members_below s to - members_below s from) + (to - from)
size_with_span s from to h l =
    let counted = size_changed (λ _. true) s from to h l in
    let each : count_below (to - from) (λ _. true) + count_below (to - from) (λ _. false)
    ≡ to - from = count-others (to - from) (λ _. false) in
    omega (
      arith,
      counted,
      each,
      count-never (to - from),
      (below_between s from to h).0,
      (below_between s to s.capacity l).0,
    )

-- the size after a span was taken out: the members outside of it
pub size_without_span : (s : PlainSet) (from to : ℕ) → from ≤ to → to ≤ s.capacity →
    size (without_span s from to) ≡ size s - (members_below s to - members_below s from)
size_without_span s from to h l =
    let counted = size_changed (λ _. false) s from to h l in
    omega (arith, counted, count-never (to - from), (below_between s from to h).0)

-- ---- The same facts for a set t, where a clause states that t is the set s after a change. The
-- prover's search finds that clause as a premise, so a caller can state a fact about its own value.

-- a member stays a member after another index was set
pub still_set_after_set : (s t : PlainSet) (i j : ℕ) → t ≡ with_index s i → contains s j ≡ true →
    contains t j ≡ true
unfolding contains has_with
still_set_after_set s t i j is has =
    let parts = and_parts (nat_lt 0 s.capacity) (s.has (j % s.capacity)) has in
    ap (λ u. contains u j) is ∙ rw (parts.0, parts.1) (by ((j % s.capacity) == (i % s.capacity)))
  where
    by : (b : Bool) → (b || true) ≡ true
    by true = refl
    by false = refl

-- an index that is no member is still no member after another index was cleared
pub still_unset_after_clear : (s t : PlainSet) (i j : ℕ) → t ≡ without_index s i →
    contains s j ≡ false → contains t j ≡ false
unfolding contains has_without
still_unset_after_clear s t i j is has =
    ap (λ u. contains u j) is ∙ by (nat_lt 0 s.capacity) (s.has (j % s.capacity))
    ((j % s.capacity) == (i % s.capacity)) has
  where
    by : (some member same : Bool) → (some && member) ≡ false →
        (some && (not (some && same) && member)) ≡ false
    by true true same e = absurd (true≢false e)
    by true false true e = refl
    by true false false e = refl
    by false member same e = refl

-- an index of the range that was set is a member
pub contains_after_set_span : (s t : PlainSet) (from to i : ℕ) → t ≡ with_span s from to →
    from ≤ i → i < to → i < s.capacity → contains t i ≡ true
contains_after_set_span s t from to i is low up within =
    ap (λ u. contains u i) is ∙ contains_with_span s from to i low up within

-- an index of the range that was cleared is no member
pub contains_after_clear_span : (s t : PlainSet) (from to i : ℕ) → t ≡ without_span s from to →
    from ≤ i → i < to → i < s.capacity → contains t i ≡ false
contains_after_clear_span s t from to i is low up within =
    ap (λ u. contains u i) is ∙ contains_without_span s from to i low up within
