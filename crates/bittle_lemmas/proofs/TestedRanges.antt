-- Tests of a range, for callers that state them of single bits.
use Rattle.std.proofs.Common.{◌≡◌, ℕ, ◌<◌, ◌≤◌, Bool, true, IsTrue, MatchBool, ◌↔◌, sym, ◌∙◌, arith}
use Rattle.bittle.specs.PlainSet.{PlainSet, contains}
use Rattle.bittle.proofs.CallerSets.{contains_within}
use Rattle.bittle_ext.specs.RangeMembers.{HasAllIn, LacksSomeIn}
use Rattle.bittle_ext.proofs.RangeAnswers.{exactly_if_all}

-- a test of all numbers of a range is true exactly if each bit of it is set
pub exactly_if_each_set : (s : PlainSet) (from to : ℕ) (b : Bool) → to ≤ s.capacity →
    MatchBool b (HasAllIn s from to) (LacksSomeIn s from to) →
    IsTrue b ↔ ((k : ℕ) → from ≤ k → k < to → contains s k ≡ true)
exactly_if_each_set s from to b within told =
    let exact = exactly_if_all s from to b told in (
      λ yes k low high. contains_within s k (omega (arith, high, within)) ∙ exact.0 yes k low high,
      λ each. exact.1 (λ k low high.
          sym (contains_within s k (omega (arith, high, within))) ∙ each k low high),
    )
