-- The state of the search that compares two sets.
use Rattle.std.proofs.Common.{◌≡◌, ℕ, ◌<◌, ◌≤◌, Bool, true, false, ◌&&◌, Option, Some, None, inl}
use Rattle.std.proofs.Common.{inr, refl, sym, ap, ◌∙◌, arith}
use Rattle.std.proofs.lemmas.Bool.{cases_lt, and_right}
use Rattle.std.specs.Prelude.{MatchOption}
use Rattle.bittle.specs.Decided.{NoneDecidedBelow, IsFirstDecided}
use Rattle.bittle.specs.PlainSet.{PlainSet}
use Rattle.bittle.specs.Walk.{ones_or_zeros}
use Rattle.bittle.specs.Searches.{NoneIn, IsFirstIn}
use Rattle.bittle.proofs.CallerSets.{complement_within}
use Rattle.bittle_ext.specs.SetRelations.{first_and}
use Rattle.bittle_ext.specs.Views.{decided_of_first}

-- the first member of a view of two sets is the first number that the operation decides
pub first_viewed : (decide : Bool → Bool → Bool) (s t : PlainSet) (end : ℕ) (r : Option ℕ) →
    IsFirstIn (decided_of_first decide s t) 0 end r →
    MatchOption r (NoneDecidedBelow decide s t end) (IsFirstDecided decide s t)
first_viewed decide s t end None none = λ i l. none i (omega arith) l
first_viewed decide s t end (Some d) first = (λ i l. first.3 i (omega arith) l, first.2)

-- a number of the first is decided by whether it is of a kind in the second
by_kind : (v a : Bool) (t : PlainSet) (i : ℕ) → i < t.capacity →
    first_and v a (t.has i) ≡ (a && (ones_or_zeros v t).has i)
by_kind true a t i l = refl
by_kind false a t i l = ap (λ b. a && b) (sym (complement_within t i l))

-- a number that is not in the first is not decided
lacking : (v b : Bool) → first_and v false b ≡ false
lacking true b = refl
lacking false b = refl

-- if `first_and` holds of no number below `from`, and the first set has no member in from..to, it
-- holds of none below `to`
pub further : (v : Bool) (s t : PlainSet) (from to : ℕ) →
    NoneDecidedBelow (first_and v) s t from → NoneIn s from to →
    NoneDecidedBelow (first_and v) s t to
further v s t from to before none i h =
    elim (cases_lt i from) [
      | inl l ↦ before i l
      | inr g ↦ ap (λ a. first_and v a (t.has i)) (none i g h) ∙ lacking v (t.has i)
    ]

-- `first_and` holds of no number below `from`, and `ours` is the first set's next member
pub record IsNext (v : Bool) (s t : PlainSet) (from end ours : ℕ) : Type 0 where
  pub within : end ≤ t.capacity
  pub before : NoneDecidedBelow (first_and v) s t from
  pub first : IsFirstIn s from end (Some ours)

module _ {v : Bool} {s t : PlainSet} {from end ours : ℕ} (at : IsNext v s t from end ours)
    (theirs : ℕ) where
  -- if the second set has no bit of the kind in ours..theirs, `first_and` holds of no number below
  -- `theirs`
  pub swapped : theirs ≤ end → NoneIn (ones_or_zeros v t) ours theirs →
      NoneDecidedBelow (first_and v) s t theirs
  swapped up none i h =
      elim (cases_lt i ours) [
        | inl l ↦ further v s t from ours at.before at.first.3 i l
        | inr g ↦
            by_kind v (s.has i) t i (omega (arith, h, at.within, up))
            ∙ and_right (s.has i) ((ones_or_zeros v t).has i) (none i g h)
      ]

  -- if the second set's bit at `ours` is of the kind, `ours` is the number that is searched for
  pub met : IsFirstIn (ones_or_zeros v t) ours end (Some theirs) → theirs ≡ ours →
      IsFirstDecided (first_and v) s t ours
  met next e = (
    further v s t from ours at.before at.first.3,
    by_kind v (s.has ours) t ours (omega (arith, at.within, at.first.1))
        ∙ ap (λ a. a && (ones_or_zeros v t).has ours) at.first.2
        ∙ ap (ones_or_zeros v t).has (sym e) ∙ next.2,
  )
