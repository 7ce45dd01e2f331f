-- Common members of two sets, and ranges of which each number is a member.
use Rattle.std.proofs.Common.{◌≡◌, ℕ, ◌≤◌, Bool, true, false, not, ◌&&◌, Option, Some, None}
use Rattle.std.proofs.Common.{is_some, MatchBool, inl, inr, refl, sym, ap, ◌∙◌, arith, min}
use Rattle.std.proofs.lemmas.Bool.{cases_lt, and_right, not-false, not-true}
use Rattle.bittle.specs.PlainSet.{PlainSet, complement}
use Rattle.bittle.specs.Searches.{IsFirstIn}
use Rattle.bittle.proofs.CallerSets.{complement_within}
use Rattle.bittle_ext.specs.RangeMembers.{EndsAt, HasAllIn, HasSomeIn, LacksSomeIn}

-- two sets of which nothing is a member from their capacities on
module _ {s t : PlainSet} {a b : ℕ} (x : EndsAt s a) (y : EndsAt t b) (end : ℕ) where
  -- no number is in both sets from the lesser capacity on
  pub none_in_both : end ≡ min a b → (i : ℕ) → end ≤ i → s.has i && t.has i ≡ false
  none_in_both is i h =
      elim (cases_lt i s.capacity) [
        | inl l ↦ ap (λ c. s.has i && c) (y.past i (omega (arith, is, x.capacity, y.capacity, l)))
            ∙ and_right (s.has i) false refl
        | inr g ↦ ap (λ c. c && t.has i) (x.past i g)
      ]

-- a range has all numbers as members exactly if a search in the complement finds none
pub all_where_none : (s : PlainSet) (from to : ℕ) (r : Option ℕ) (b : Bool) →
    is_some r ≡ not b → to ≤ s.capacity → IsFirstIn (complement s) from to r →
    MatchBool b (HasAllIn s from to) (HasSomeIn (complement s) from to)
all_where_none s from to None b e within none =
    rw (not-false b (sym e))
    (λ k h l. not-false (s.has k) (sym (complement_within s k (omega arith)) ∙ none k h l))
all_where_none s from to (Some i) b e within first =
    rw (not-true b (sym e)) (i, first.0, first.1, first.2)

-- if some number of a range is in the complement, the range lacks some number
pub lacks_where_some : (s : PlainSet) (from to : ℕ) (b : Bool) → to ≤ s.capacity →
    MatchBool b (HasAllIn s from to) (HasSomeIn (complement s) from to) →
    MatchBool b (HasAllIn s from to) (LacksSomeIn s from to)
lacks_where_some s from to true within all = all
lacks_where_some s from to false within some =
    let k = some.0 in (
      k,
      some.1,
      some.2,
      not-true (s.has k)
          (sym (complement_within s k (omega (arith, some.2))) ∙ some.3),
    )
