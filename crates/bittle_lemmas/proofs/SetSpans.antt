-- Facts about a set and its spans, after a caller set a span or an index.
use Rattle.std.proofs.Common.{◌≡◌, ℕ, ◌+◌, ◌-◌, ◌<◌, ◌≤◌, ◌⊎◌, Bool, true, false, cond, inl, inr}
use Rattle.std.proofs.Common.{refl, sym, ap, ◌∙◌, arith}
use Rattle.std.proofs.lemmas.Bool.{cases_lt}
use Rattle.bittle.specs.PlainSet.{PlainSet, contains, has_changed, is_in_span, size, with_index}
use Rattle.bittle.specs.PlainSet.{with_span}
use Rattle.bittle.specs.Searches.{NoneIn}
use Rattle.bittle.proofs.CallerChanges.{size_with_span}
use Rattle.bittle.proofs.CallerSets.{contains_within}
use Rattle.bittle_bits.proofs.MembersBelow.{below_at_most}
use Rattle.bittle_ext.specs.ReservedSpans.{lacks_span}
use Rattle.bittle_ext.proofs.CallerMembers.{has_other_after_set}
use Rattle.bittle_ext.proofs.CallerSpans.{has_outside_set_span}
use Rattle.bittle_ext.proofs.RankFacts.{below_stays}
use Rattle.bittle_ext.proofs.UnsetSpans.{lacks_span_if_none, none_if_lacks_span}

-- if a span had no members, setting it adds as many members as the span is long
pub size_after_set_span_new : (s t : PlainSet) (from to : ℕ) → t ≡ with_span s from to →
    from ≤ to → to ≤ s.capacity → NoneIn s from to → size t ≡ size s + (to - from)
size_after_set_span_new s t from to is ordered within none =
    let same = below_stays s from to ordered none in
    let change = ap size is ∙ size_with_span s from to ordered within in
    omega (arith, same, change)

-- a member stays a member after a span was set
pub still_set_after_set_span : (s t : PlainSet) (from to i : ℕ) → t ≡ with_span s from to →
    i < s.capacity → contains s i ≡ true → contains t i ≡ true
unfolding has_changed
still_set_after_set_span s t from to i is below has =
    ap (λ (u : PlainSet). contains u i) is ∙ contains_within (with_span s from to) i below
    ∙ ap (λ b. cond (is_in_span from to i) true b) (sym (contains_within s i below) ∙ has)
    ∙ either_way (is_in_span from to i)
  where
    either_way : (b : Bool) → cond b true true ≡ true
    either_way true = refl
    either_way false = refl

-- after a span was set, each member lies in the span or was a member before
pub in_span_or_before : (s t : PlainSet) (from to i : ℕ) → t ≡ with_span s from to →
    t.has i ≡ true → ((from ≤ i) × (i < to)) ⊎ (s.has i ≡ true)
in_span_or_before s t from to i is has = elim (cases_lt i from) [
  | inl low ↦ inr (sym (has_outside_set_span s t from to i is (inl low)) ∙ has)
  | inr start ↦ elim (cases_lt i to) [
    | inl end ↦ inl (start, end)
    | inr past ↦ inr (sym (has_outside_set_span s t from to i is (inr past)) ∙ has)
  ]
]

-- a set has at most `from` members if each number from `from` on is unset
pub size_before_span : (s : PlainSet) (from to : ℕ) → lacks_span s from to ≡ true →
    from ≤ s.capacity → s.capacity ≤ to → size s ≤ from
size_before_span s from to lacked within past = omega (
  arith,
  below_at_most s from,
  below_stays s from s.capacity within
      (λ k low up. none_if_lacks_span s from to lacked k low (omega (arith, up, past))),
)

-- a span stays unset after an index past it was set
pub lacks_span_after_set_past : (s t : PlainSet) (i from to : ℕ) → t ≡ with_index s i → to ≤ i →
    i < s.capacity → lacks_span s from to ≡ true → lacks_span t from to ≡ true
lacks_span_after_set_past s t i from to is past below lacked = lacks_span_if_none t from to
    (omega (arith, past, below, ap (λ u. u.capacity) is))
    (λ k low up. has_other_after_set s t i k is below (λ same. omega (arith, same, up, past))
    ∙ none_if_lacks_span s from to lacked k low up)
