-- Steps that take the items of a list from its two ends, and the scans that they may cost.
use Rattle.std.specs.Prelude.{◌≡◌, ℕ, ◌+◌, ◌<◌, ◌≤◌, Option, Some, None, List, [], ◌∷◌, ◌++◌}
use Rattle.std.specs.Prelude.{length, take, slice_index, is_some, count_by, reverse}
use Rattle.bittle.specs.declared.replay.steps.Step.{Step}
use Rattle.bittle.specs.declared.replay.steps.Step.TheVariants.{Front, Back}

-- the first item
abbrev pub first_of : List ℕ → Option ℕ
first_of [] = None
first_of (x ∷ xs) = Some x

-- the list without its first item
abbrev pub rest_of : List ℕ → List ℕ
rest_of [] = []
rest_of (x ∷ xs) = xs

-- the answer of one step, which is None for the empty list
abbrev pub answer_of : Step → List ℕ → Option ℕ
answer_of Front xs = first_of xs
answer_of Back xs = first_of (reverse xs)

-- the list without the item that one step takes
abbrev pub items_left_by : Step → List ℕ → List ℕ
items_left_by Front xs = rest_of xs
items_left_by Back xs = reverse (rest_of (reverse xs))

-- the answers of a list of steps
abbrev pub answers_of : List Step → List ℕ → List (Option ℕ)
answers_of [] xs = []
answers_of (step ∷ steps) xs = answer_of step xs ∷ answers_of steps (items_left_by step xs)

-- the list that remains after all the steps
abbrev pub remains_of : List Step → List ℕ → List ℕ
remains_of [] xs = xs
remains_of (step ∷ steps) xs = remains_of steps (items_left_by step xs)

-- the list of the item, or the empty list for None
abbrev pub item_in : Option ℕ → List ℕ
item_in None = []
item_in (Some x) = x ∷ []

-- the items that the steps from the front yield, in the order of these steps
abbrev pub items_from_front : List Step → List ℕ → List ℕ
items_from_front [] xs = []
items_from_front (Front ∷ steps) xs = item_in (first_of xs)
    ++ items_from_front steps (items_left_by Front xs)
items_from_front (Back ∷ steps) xs = items_from_front steps (items_left_by Back xs)

-- the items that the steps from the back yield, in the order of these steps
abbrev pub items_from_back : List Step → List ℕ → List ℕ
items_from_back [] xs = []
items_from_back (Front ∷ steps) xs = items_from_back steps (items_left_by Front xs)
items_from_back (Back ∷ steps) xs = item_in (first_of (reverse xs))
    ++ items_from_back steps (items_left_by Back xs)

-- the items from the front, what remains, and the items from the back in reverse are the whole list
abbrev pub KeepsAll : List Step → List ℕ → Type 0
KeepsAll steps xs = items_from_front steps xs
    ++ (remains_of steps xs ++ reverse (items_from_back steps xs)) ≡ xs

-- how many answers are items
abbrev pub items_given : List (Option ℕ) → ℕ
items_given answers = count_by is_some answers

-- `scans` has one number for each answer, and these numbers never fall. Each is at least the number
-- of items yielded so far, and at most that number plus the number of words.
pub record AreScanBounded (scans : List ℕ) (answers : List (Option ℕ)) (words : ℕ) : Type 0 where
  pub each : length scans ≡ length answers
  pub rise : (k : ℕ) → k + 1 < length scans → slice_index scans k ≤ slice_index scans (k + 1)
  pub at_least : (k : ℕ) → k < length scans →
      items_given (take (k + 1) answers) ≤ slice_index scans k
  pub at_most : (k : ℕ) → k < length scans →
      slice_index scans k ≤ items_given (take (k + 1) answers) + words
