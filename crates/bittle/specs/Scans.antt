-- A list of counts.
use Rattle.std.specs.Prelude.{ℕ, List, [], ◌∷◌, ◌++◌}
use Rattle.bittle.specs.declared.replay.steps.CountList.{CountList, Empty, And'}

-- the numbers of the list, in the order in which they were added
abbrev pub numbers_of : CountList → List ℕ
numbers_of Empty = []
numbers_of (And' shape before count) = numbers_of before ++ count.value ∷ []
