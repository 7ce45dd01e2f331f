-- Results of `all_in_range` and `any_in_range`, for proofs of callers.
use Rattle.std.proofs.Common.{ℕ, Bool, true, false, IsTrue, MatchBool, ◌↔◌, refl, sym, ◌∙◌}
use Rattle.std.proofs.lemmas.Bool.{true≢false}
use Rattle.bittle.specs.PlainSet.{PlainSet}
use Rattle.bittle.specs.Searches.{NoneIn}
use Rattle.bittle_ext.specs.RangeMembers.{HasAllIn, HasSomeIn, LacksSomeIn}

-- the test of all numbers of a range returns true exactly if each of them is a member
pub exactly_if_all : (s : PlainSet) (from to : ℕ) (b : Bool) →
    MatchBool b (HasAllIn s from to) (LacksSomeIn s from to) → IsTrue b ↔ HasAllIn s from to
exactly_if_all s from to true all = (λ _. all, λ _. refl)
exactly_if_all s from to false some = (
  λ no. absurd (true≢false (sym no)),
  λ all. absurd (true≢false (sym (all some.0 some.1 some.2) ∙ some.3)),
)

-- the test of any number of a range returns true exactly if some number of it is a member
pub exactly_if_any : (s : PlainSet) (from to : ℕ) (b : Bool) →
    MatchBool b (HasSomeIn s from to) (NoneIn s from to) → IsTrue b ↔ HasSomeIn s from to
exactly_if_any s from to true some = (λ _. some, λ _. refl)
exactly_if_any s from to false none = (
  λ no. absurd (true≢false (sym no)),
  λ some. absurd (true≢false (sym some.3 ∙ none some.0 some.1 some.2)),
)
