-- The spans of a set after calls on it, for proofs of callers.
use Rattle.std.proofs.Common.{◌≡◌, ◌≢◌, ℕ, zero, suc, ◌+◌, ◌-◌, ◌%◌, ◌<◌, ◌≤◌, ◌⊎◌, Bool, true}
use Rattle.std.proofs.Common.{false, cond, not, ◌&&◌, ◌||◌, ◌==◌, nat_lt, inl, inr, refl, sym, ap}
use Rattle.std.proofs.Common.{◌∙◌, arith}
use Rattle.std.proofs.Math.Bool.{and-false, or-true}
use Rattle.std.proofs.Math.Nat.{div-add-mod', mod-eq_of_lt}
use Rattle.std.proofs.lemmas.Bool.{and_parts, cases_eq, ne_eqb, le-leb, lt-ltb}
use Rattle.bittle.specs.PlainSet.{PlainSet, contains, is_in_span, has_changed, has_with}
use Rattle.bittle.specs.PlainSet.{has_without, with_index, with_span, with_span_toggled}
use Rattle.bittle.specs.PlainSet.{without_index, without_span}
use Rattle.bittle_bits.proofs.Spans.{inside_span, outside_span}
use Rattle.bittle.proofs.CallerSets.{contains_within}
use Rattle.bittle_ext.specs.ReservedSpans.{each_from, has_span}

-- ---- one index after a span was set or cleared

-- after a span was set, each index of it is a member
pub has_after_set_span : (s t : PlainSet) (from to i : ℕ) → t ≡ with_span s from to →
    from ≤ i → i < to → t.has i ≡ true
has_after_set_span s t from to i is low up =
    ap (λ (u : PlainSet). u.has i) is ∙ inside_span (λ _. true) s from to i low up

-- after a span was cleared, no index of it is a member
pub has_after_clear_span : (s t : PlainSet) (from to i : ℕ) → t ≡ without_span s from to →
    from ≤ i → i < to → t.has i ≡ false
has_after_clear_span s t from to i is low up =
    ap (λ (u : PlainSet). u.has i) is ∙ inside_span (λ _. false) s from to i low up

-- after a span was toggled, each index of it is a member exactly if it was none before
pub contains_after_toggle_span : (s t : PlainSet) (from to i : ℕ) →
    t ≡ with_span_toggled s from to → to ≤ s.capacity → from ≤ i → i < to →
    contains t i ≡ not (contains s i)
contains_after_toggle_span s t from to i is within low up =
    let below : i < s.capacity = omega (arith, up, within) in
    ap (λ (u : PlainSet). contains u i) is
    ∙ contains_within (with_span_toggled s from to) i below
    ∙ inside_span not s from to i low up ∙ ap not (sym (contains_within s i below))

-- after a span was set (or cleared), an index outside it is a member exactly if it was one before
pub has_outside_set_span : (s t : PlainSet) (from to i : ℕ) → t ≡ with_span s from to →
    (i < from) ⊎ (to ≤ i) → t.has i ≡ s.has i
has_outside_set_span s t from to i is outside =
    ap (λ (u : PlainSet). u.has i) is ∙ outside_span (λ _. true) s from to i outside

pub has_outside_clear_span : (s t : PlainSet) (from to i : ℕ) → t ≡ without_span s from to →
    (i < from) ⊎ (to ≤ i) → t.has i ≡ s.has i
has_outside_clear_span s t from to i is outside =
    ap (λ (u : PlainSet). u.has i) is ∙ outside_span (λ _. false) s from to i outside

-- `has_outside_set_span`, for a test by `contains`
pub contains_outside_set_span : (s t : PlainSet) (from to i : ℕ) (b : Bool) →
    t ≡ with_span s from to → (i < from) ⊎ (to ≤ i) → i < s.capacity → contains s i ≡ b →
    contains t i ≡ b
contains_outside_set_span s t from to i b is outside below was =
    ap (λ (u : PlainSet). contains u i) is ∙ contains_within (with_span s from to) i below
    ∙ outside_span (λ _. true) s from to i outside ∙ sym (contains_within s i below) ∙ was

pub contains_outside_clear_span : (s t : PlainSet) (from to i : ℕ) (b : Bool) →
    t ≡ without_span s from to → (i < from) ⊎ (to ≤ i) → i < s.capacity → contains s i ≡ b →
    contains t i ≡ b
contains_outside_clear_span s t from to i b is outside below was =
    ap (λ (u : PlainSet). contains u i) is ∙ contains_within (without_span s from to) i below
    ∙ outside_span (λ _. false) s from to i outside ∙ sym (contains_within s i below) ∙ was

-- ---- a span that a set keeps

-- `each_from` is true if each of the n numbers passes the test; and if it is true, each of them
-- passes
pub each_passes : (p : ℕ → Bool) (from n : ℕ) → ((k : ℕ) → from ≤ k → k < from + n → p k ≡ true) →
    each_from p from n ≡ true
unfolding each_from
each_passes p from zero all = refl
each_passes p from (suc n) all =
    ap (λ b. b && each_from p (suc from) n) (all from (omega arith) (omega arith))
    ∙ each_passes p (suc from) n (λ k low up. all k (omega (arith, low)) (omega (arith, up)))

pub passes_each : (p : ℕ → Bool) (from n : ℕ) → each_from p from n ≡ true → (k : ℕ) → from ≤ k →
    k < from + n → p k ≡ true
unfolding each_from
passes_each p from zero all k low up = absurd (omega (arith, low, up))
passes_each p from (suc n) all k low up =
    let parts = and_parts (p from) (each_from p (suc from) n) all in
    elim (cases_eq k from) [
      | inl e ↦ ap p e ∙ parts.0
      | inr apart ↦
          passes_each p (suc from) n parts.1 k (omega (arith, low, apart)) (omega (arith, up))
    ]

-- `has_span` is true if each number of the span is a member
pub has_span_if_each : (s : PlainSet) (from to : ℕ) →
    ((k : ℕ) → from ≤ k → k < to → s.has k ≡ true) → has_span s from to ≡ true
unfolding has_span
has_span_if_each s from to all =
    each_passes s.has from (to - from) (λ k low up. all k low (omega (arith, low, up)))

-- if `has_span` is true, each number of the span is a member
pub each_if_has_span : (s : PlainSet) (from to : ℕ) → has_span s from to ≡ true →
    (k : ℕ) → from ≤ k →
    k < to → s.has k ≡ true
unfolding has_span
each_if_has_span s from to has k low up =
    passes_each s.has from (to - from) has k low (omega (arith, low, up))

-- after a span was set, `has_span` of it is true
pub has_span_after_set_span : (s t : PlainSet) (from to : ℕ) → t ≡ with_span s from to →
    has_span t from to ≡ true
unfolding has_changed
has_span_after_set_span s t from to is = has_span_if_each t from to (λ k low up.
    ap (λ (u : PlainSet). u.has k) is ∙ rw (le-leb from k low, lt-ltb k to up) refl)

-- `has_span` stays true after an index was set
pub has_span_after_set : (s t : PlainSet) (i from to : ℕ) → t ≡ with_index s i →
    has_span s from to ≡ true → has_span t from to ≡ true
unfolding has_with
has_span_after_set s t i from to is has = has_span_if_each t from to (λ k low up.
    ap (λ (u : PlainSet). u.has k) is
    ∙ ap (λ b. (nat_lt 0 s.capacity && (k == i % s.capacity)) || b)
    (each_if_has_span s from to has k low up)
    ∙ or-true (nat_lt 0 s.capacity && (k == i % s.capacity)))

-- a span stays where an index that it lacks was cleared
has_span_without : (s t : PlainSet) (i from to : ℕ) → t ≡ without_index s i →
    ((k : ℕ) → from ≤ k → k < to → k ≢ i % s.capacity) → has_span s from to ≡ true →
    has_span t from to ≡ true
unfolding has_without
has_span_without s t i from to is lacks has = has_span_if_each t from to (λ k low up.
    ap (λ (u : PlainSet). u.has k) is
    ∙ ap (λ b. not (nat_lt 0 s.capacity && b) && s.has k)
    (ne_eqb k (i % s.capacity) (lacks k low up))
    ∙ ap (λ b. not b && s.has k) (and-false (nat_lt 0 s.capacity))
    ∙ each_if_has_span s from to has k low up)

-- `has_span` stays true after an index before the span was cleared
pub has_span_after_clear : (s t : PlainSet) (i from to : ℕ) → t ≡ without_index s i → i < from →
    has_span s from to ≡ true → has_span t from to ≡ true
has_span_after_clear s t i from to is before = has_span_without s t i from to is
    (λ k low up e. omega (arith, e, low, before, div-add-mod' i s.capacity))

-- `has_span` stays true after an index past the span was cleared
pub has_span_after_clear_past : (s t : PlainSet) (i from to : ℕ) → t ≡ without_index s i → to ≤ i →
    i < s.capacity → has_span s from to ≡ true → has_span t from to ≡ true
has_span_after_clear_past s t i from to is past within = has_span_without s t i from to is
    (λ k low up e. omega (arith, e, up, past, mod-eq_of_lt within))

-- `has_span` stays true after another span was set
pub has_span_after_other_span : (s t : PlainSet) (low high from to : ℕ) → t ≡ with_span s low high →
    has_span s from to ≡ true → has_span t from to ≡ true
unfolding has_changed
has_span_after_other_span s t low high from to is has = has_span_if_each t from to (λ k lo up.
    ap (λ (u : PlainSet). u.has k) is
    ∙ ap (λ b. cond (is_in_span low high k) true b) (each_if_has_span s from to has k lo up)
    ∙ by (is_in_span low high k))
  where
    by : (b : Bool) → cond b true true ≡ true
    by true = refl
    by false = refl
