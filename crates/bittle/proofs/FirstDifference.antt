-- The first difference of two sets whose words have the same width and are read in the same order,
-- and what it decides.
use mathlib.Core.Bool.{beq}
use Rattle.std.proofs.Common.{◌≡◌, ℕ, ◌<◌, ◌≤◌, ◌⊎◌, ◌↔◌, Bool, true, false, not, IsTrue, inl, inr}
use Rattle.std.proofs.Common.{Option, Some, None, is_none, is_some, MatchOption, MatchBool, min}
use Rattle.std.proofs.Common.{refl, sym, ap, ◌∙◌, arith}
use Rattle.std.proofs.lemmas.Bool.{cases_eq, cases_lt, not-true, false_from_ne_true, true≢false}
use Rattle.std.specs.declared.cmp.Ordering.{Ordering}
use Rattle.std.specs.declared.cmp.Ordering.TheVariants.{Less, Equal, Greater}
use Rattle.std.specs.Ordering.{MatchOrdering, is_eq}
use Rattle.bittle_bits.specs.Decided.{NoneDecidedBelow, IsFirstDecided}
use Rattle.bittle_bits.specs.PlainSet.{PlainSet, ascending}
use Rattle.bittle_bits.specs.Searches.{IsFirstIn}
use Rattle.bittle_bits.specs.SetOperations.{just_one}
use Rattle.bittle.specs.Comparison.{list_cmp, AreSame, AreSameBelow, GoesOn, HasPast, HasNonePast}
use Rattle.bittle.specs.Comparison.{Precedes, IsFirstDifference, TellsFirstDifference}
use Rattle.bittle.proofs.ListComparison.{EndsAtCapacity, list_cmp-precedes, equal_iff_same}
use Rattle.bittle.proofs.ListComparison.{not_both}

alike : (a b : Bool) → just_one a b ≡ false → a ≡ b
alike a b h = grind arith

-- ---- below both capacities

-- if a search below n finds the least number that is in just one set, it is the first difference
pub some_among : (s t : PlainSet) (n : ℕ) (r : Option ℕ) → is_some r ≡ true →
    MatchOption r (NoneDecidedBelow just_one s t n) (IsFirstDecided just_one s t) →
    TellsFirstDifference s t r
some_among s t n None e h = absurd (true≢false (sym e))
some_among s t n (Some d) e h = h

-- if a search below n finds nothing, no number below n is in just one set
pub none_among : (s t : PlainSet) (n : ℕ) (r : Option ℕ) → is_some r ≡ false →
    MatchOption r (NoneDecidedBelow just_one s t n) (IsFirstDecided just_one s t) →
    NoneDecidedBelow just_one s t n
none_among s t n None e h = h
none_among s t n (Some d) e h = absurd (true≢false e)

-- ---- past the capacity of one side

-- if s has no member from `from` on, and t has none from `to` on, a search of t between the two
-- finds the difference
past_first : (s t : PlainSet) (from to : ℕ) (r : Option ℕ) → NoneDecidedBelow just_one s t from →
    ((i : ℕ) → from ≤ i → s.has i ≡ false) → ((i : ℕ) → to ≤ i → t.has i ≡ false) →
    IsFirstIn t from to r → TellsFirstDifference s t r
past_first s t from to None same none past h = λ i.
    elim (cases_lt i from) [
      | inl l ↦ alike _ _ (same i l)
      | inr g ↦ none i g ∙ sym (elim (cases_lt i to) [ inl b ↦ h i g b | inr q ↦ past i q ])
    ]
past_first s t from to (Some d) same none past h = (
  (λ i p. elim (cases_lt i from) [ inl l ↦ same i l | inr g ↦ rw (none i g) (h.3 i g p) ]),
  rw (none d h.0) h.2,
)

turned : (a b : Bool) → just_one a b ≡ just_one b a
turned a b = grind arith

-- if t has no member from `from` on, and s has none from `to` on, a search of s between the two
-- finds the difference
past_second : (s t : PlainSet) (from to : ℕ) (r : Option ℕ) → NoneDecidedBelow just_one s t from →
    ((i : ℕ) → from ≤ i → t.has i ≡ false) → ((i : ℕ) → to ≤ i → s.has i ≡ false) →
    IsFirstIn s from to r → TellsFirstDifference s t r
past_second s t from to r same none past h =
    back r (past_first t s from to r (λ i p. turned (t.has i) (s.has i) ∙ same i p) none past h)
  where
    back : (r : Option ℕ) → TellsFirstDifference t s r → TellsFirstDifference s t r
    back None e = λ i. sym (e i)
    back (Some d) e = (
      (λ i p. turned (s.has i) (t.has i) ∙ e.0 i p),
      turned (s.has d) (t.has d) ∙ e.1,
    )

-- below both capacities no number is in just one of the sets, and neither has a member past its
-- capacity
pub record AreAlikeInCommon (s t : PlainSet) : Type 0 where
  pub first : EndsAtCapacity s
  pub second : EndsAtCapacity t
  pub same : NoneDecidedBelow just_one s t (min s.capacity t.capacity)

module _ (s t : PlainSet) (both : AreAlikeInCommon s t) where
  -- if the second set is longer, its first member past the end of the first set is the difference
  pub first_ends : s.capacity < t.capacity → (r : Option ℕ) →
      IsFirstIn t s.capacity t.capacity r → TellsFirstDifference s t r
  first_ends h r found = past_first s t s.capacity t.capacity r
      (λ i l. both.same i (omega (arith, h))) both.first both.second found

  -- if the first set is longer, its first member past the end of the second set is the difference
  pub second_ends : t.capacity < s.capacity → (r : Option ℕ) →
      IsFirstIn s t.capacity s.capacity r → TellsFirstDifference s t r
  second_ends h r found = past_second s t t.capacity s.capacity r
      (λ i l. both.same i (omega (arith, h))) both.second both.first found

  -- if both sets have the same capacity, they have the same members
  pub both_end : s.capacity ≡ t.capacity → AreSame s t
  both_end e i = elim (cases_lt i s.capacity) [
    | inl l ↦ alike _ _ (both.same i (omega (arith, e)))
    | inr g ↦ both.first i g ∙ sym (both.second i (omega (arith, e)))
  ]

-- a search that starts at a number which is not a member finds whether a member is greater
pub past_found : (s : PlainSet) (d to : ℕ) (r : Option ℕ) → s.has d ≡ false →
    ((i : ℕ) → to ≤ i → s.has i ≡ false) → IsFirstIn s d to r →
    MatchBool (is_some r) (HasPast s d) (HasNonePast s d)
past_found s d to None lacks past h = λ m p. elim (cases_lt m to)
    [ inl l ↦ h m (omega arith) l | inr g ↦ past m g ]
past_found s d to (Some m) lacks past h = elim (cases_lt d m) [
  | inl l ↦ (m, l, h.2)
  | inr g ↦
      let same : m ≡ d = omega (arith, h.0) in
      absurd (true≢false (sym h.2 ∙ ap s.has same ∙ lacks))
]

-- ---- what the first difference decides

differ : (a b : Bool) → just_one a b ≡ true → a ≡ b → ⊥
differ a b h e = grind arith

-- the order depends on which set has the first difference d, and on whether the other set has a
-- member past d (`goes_on`)
module _ (s t : PlainSet) (d : ℕ) (at : IsFirstDifference s t d) where
  same : AreSameBelow s t d
  same i l = alike _ _ (at.0 i l)

  -- s precedes t if s has d and t goes on past d, or if t has d and s does not go on past d
  pub before : (ours goes_on : Bool) → ours ≡ s.has d → GoesOn ours s t d goes_on →
      beq ours goes_on ≡ true → Precedes s t
  before true true a p e = (d, same, inl (sym a, not-true _ (rw (← a) at at.1), p))
  before false false a p e = (d, same, inr (sym a, rw (← a) at at.1, p))
  before true false a p e = absurd (true≢false (sym e))
  before false true a p e = absurd (true≢false (sym e))

  -- t precedes s if s has d and t does not go on past d, or if t has d and s goes on past d
  pub after : (ours goes_on : Bool) → ours ≡ s.has d → GoesOn ours s t d goes_on →
      beq ours goes_on ≡ false → Precedes t s
  after true false a p e =
      (d, (λ i l. sym (same i l)), inr (not-true _ (rw (← a) at at.1), sym a, p))
  after false true a p e = (d, (λ i l. sym (same i l)), inl (rw (← a) at at.1, sym a, p))
  after true true a p e = absurd (true≢false e)
  after false false a p e = absurd (true≢false e)

-- the last part of `Precedes`: what holds of d. The lemmas below show that no two sets precede each
-- other.
abbrev Decides : PlainSet → PlainSet → ℕ → Type 0
Decides s t d = ((s.has d ≡ true) × (t.has d ≡ false) × HasPast t d)
    ⊎ ((s.has d ≡ false) × (t.has d ≡ true) × HasNonePast s d)

unlike : (s t : PlainSet) (d : ℕ) → Decides s t d → s.has d ≡ t.has d → ⊥
unlike s t d (inl x) e = true≢false (sym x.0 ∙ e ∙ x.1)
unlike s t d (inr x) e = true≢false (sym x.1 ∙ sym e ∙ x.0)

clash : (s t : PlainSet) (d : ℕ) → Decides s t d → Decides t s d → ⊥
clash s t d (inl x) (inl y) = true≢false (sym x.0 ∙ y.1)
clash s t d (inl x) (inr y) = true≢false (sym x.2.2 ∙ y.2 x.2.0 x.2.1)
clash s t d (inr x) (inl y) = true≢false (sym y.2.2 ∙ x.2 y.2.0 y.2.1)
clash s t d (inr x) (inr y) = true≢false (sym x.1 ∙ y.0)

one_way : (s t : PlainSet) → Precedes s t → Precedes t s → ⊥
one_way s t p q = by (cases_eq p.0 q.0)
  where
    by : (p.0 ≡ q.0) ⊎ (p.0 ≡ q.0 → ⊥) → ⊥
    by (inl e) = clash s t q.0 (rw e at p.2) q.2
    by (inr n) = elim (cases_lt p.0 q.0) [
      | inl l ↦ unlike s t p.0 p.2 (sym (q.1 p.0 l))
      | inr g ↦ unlike t s q.0 q.2 (sym (p.1 q.0 (omega arith)))
    ]

-- the order of the lists of members is the order that `Precedes` and `AreSame` decide
module _ (s t : PlainSet) (ends_s : EndsAtCapacity s) (ends_t : EndsAtCapacity t) where
  both : (a b : Ordering) → MatchOrdering a (Precedes s t) (AreSame s t) (Precedes t s) →
      MatchOrdering b (Precedes s t) (AreSame s t) (Precedes t s) → a ≡ b
  both Less Less h k = refl
  both Less Equal h k = absurd (not_both s t h k)
  both Less Greater h k = absurd (one_way s t h k)
  both Equal Less h k = absurd (not_both s t k h)
  both Equal Equal h k = refl
  both Equal Greater h k = absurd (not_both t s k (λ i. sym (h i)))
  both Greater Less h k = absurd (one_way s t k h)
  both Greater Equal h k = absurd (not_both t s h (λ i. sym (k i)))
  both Greater Greater h k = refl

  -- if `Precedes` and `AreSame` decide the order o of the sets, o is the order of their lists
  pub cmp_decided : (o : Ordering) → MatchOrdering o (Precedes s t) (AreSame s t) (Precedes t s) →
      o ≡ list_cmp (ascending s) (ascending t)
  cmp_decided o h = both o _ h (list_cmp-precedes s t ends_s ends_t)

  -- the lists are equal exactly if no index is in just one set
  pub none_equal : (r : Option ℕ) → TellsFirstDifference s t r →
      is_none r ≡ is_eq (list_cmp (ascending s) (ascending t))
  none_equal None h = ap is_eq (cmp_decided Equal h)
  none_equal (Some d) h = sym (false_from_ne_true _ (λ e. differ _ _ h.1
      ((equal_iff_same s t _ (list_cmp-precedes s t ends_s ends_t)).0 e d)))

-- if a test is false exactly when there is an index, it is true exactly when there is none
pub none_is : (r : Option ℕ) (b : Bool) → is_some r ≡ not b → b ≡ is_none r
none_is r true e = sym (ap not e)
none_is r false e = sym (ap not e)

-- no index is in just one set exactly if the two sets are the same
pub none_decides : (s t : PlainSet) (r : Option ℕ) → TellsFirstDifference s t r →
    IsTrue (is_none r) ↔ AreSame s t
none_decides s t None h = (λ x. h, λ y. refl)
none_decides s t (Some d) h = (λ x. absurd (true≢false (sym x)), λ y. absurd (differ _ _ h.1 (y d)))
