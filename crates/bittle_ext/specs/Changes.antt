-- Sets changed at one index, at each index of a span, or at each member that fails a test.
use Rattle.std.specs.Prelude.{◌≡◌, ℕ, Bool, cond, ◌&&◌, not}
use Rattle.std.specs.List.Retain.{IsFiltered}
use Rattle.bittle.specs.PlainSet.{PlainSet, ascending, contains, with_index, without_index}
use Rattle.bittle.specs.PlainSet.{with_span_changed}

-- the set with the index added if the value is true, else removed
abbrev pub with_index_assigned : PlainSet → ℕ → Bool → PlainSet
with_index_assigned s i value = cond value (with_index s i) (without_index s i)

-- the set with the index removed if it is a member, else added
abbrev pub with_index_toggled : PlainSet → ℕ → PlainSet
with_index_toggled s i = with_index_assigned s i (not (contains s i))

-- the set with each index of a span added if the value is true, else removed
abbrev pub with_span_assigned : PlainSet → ℕ → ℕ → Bool → PlainSet
with_span_assigned s from end value = with_span_changed (λ _. value) s from end

-- whether a number is a member that passes the test
unfoldable pub has_passing : (ℕ → Bool) → PlainSet → ℕ → Bool
has_passing test s k = s.has k && test k

-- the set of the members that pass the test
abbrev pub those_passing : (ℕ → Bool) → PlainSet → PlainSet
those_passing test s = record { capacity = s.capacity; has = has_passing test s }

-- each call of the closure `keep` returns what the test says, and leaves the closure as it was
abbrev pub AnswersBy : {F : Type 0} → (F → ℕ → Bool → F → Type 0) → F → (ℕ → Bool) → Type 0
AnswersBy {F} step keep test =
    (i : ℕ) (b : Bool) (next : F) → step keep i b next → (b ≡ test i) × (next ≡ keep)

-- a closure was called once for each member of `before`, in increasing order; `after` has exactly
-- the members for which it returned true
pub record Retains {F : Type 0} (step : F → ℕ → Bool → F → Type 0) (keep : F)
    (before after : PlainSet) : Type 0 where
  pub capacity : after.capacity ≡ before.capacity
  pub asked : IsFiltered step keep (ascending before) (ascending after)
  -- if the closure answers by a test, `after` has exactly the members of `before` that pass it
  pub by_test : (test : ℕ → Bool) → AnswersBy step keep test → after ≡ those_passing test before
