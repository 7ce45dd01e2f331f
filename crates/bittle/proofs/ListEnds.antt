-- One step from either end of a list, and what many steps keep.
use Rattle.std.proofs.Common.{◌≡◌, ℕ, Option, Some, None, List, [], ◌∷◌, ◌++◌, reverse, refl, sym}
use Rattle.std.proofs.Common.{ap, ◌∙◌, append_assoc, append-nil}
use Rattle.std.proofs.lemmas.List.{reverse-append, reverse-reverse}
use Rattle.bittle.specs.declared.replay.steps.Step.{Step}
use Rattle.bittle.specs.declared.replay.steps.Step.TheVariants.{Front, Back}
use Rattle.bittle.specs.ListEnds.{first_of, rest_of, items_left_by, remains_of, item_in}
use Rattle.bittle.specs.ListEnds.{items_from_front, items_from_back, KeepsAll}

-- a list is its first item, then the rest
first_and_rest : (xs : List ℕ) → item_in (first_of xs) ++ rest_of xs ≡ xs
first_and_rest [] = refl
first_and_rest (x ∷ xs) = refl

item_turned : (o : Option ℕ) → reverse (item_in o) ≡ item_in o
item_turned None = refl
item_turned (Some x) = refl

-- a list is what a step from the back leaves, then the item of that step
last_and_rest : (xs : List ℕ) → items_left_by Back xs ++ item_in (first_of (reverse xs)) ≡ xs
last_and_rest xs =
    ap (λ l. items_left_by Back xs ++ l) (sym (item_turned (first_of (reverse xs))))
    ∙ sym (reverse-append (item_in (first_of (reverse xs))) (rest_of (reverse xs)))
    ∙ ap reverse (first_and_rest (reverse xs)) ∙ reverse-reverse xs

-- the items that steps yield from each end, and what remains between, are the whole list
pub keeps_all : (steps : List Step) (xs : List ℕ) → KeepsAll steps xs
keeps_all [] xs = append-nil xs
keeps_all (Front ∷ steps) xs =
    append_assoc (item_in (first_of xs)) (items_from_front steps (rest_of xs))
    (remains_of steps (rest_of xs) ++ reverse (items_from_back steps (rest_of xs)))
    ∙ ap (λ l. item_in (first_of xs) ++ l) (keeps_all steps (rest_of xs)) ∙ first_and_rest xs
keeps_all (Back ∷ steps) xs =
    let left = items_left_by Back xs in
    let last = item_in (first_of (reverse xs)) in
    ap (λ l. items_from_front steps left ++ (remains_of steps left ++ l))
    (reverse-append last (items_from_back steps left)
    ∙ ap (λ l. reverse (items_from_back steps left) ++ l) (item_turned (first_of (reverse xs))))
    ∙ ap (λ l. items_from_front steps left ++ l)
    (sym (append_assoc (remains_of steps left) (reverse (items_from_back steps left)) last))
    ∙ sym (append_assoc (items_from_front steps left)
    (remains_of steps left ++ reverse (items_from_back steps left)) last)
    ∙ ap (λ l. l ++ last) (keeps_all steps left) ∙ last_and_rest xs
