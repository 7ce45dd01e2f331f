-- Numbers on a line, as they are written one after the other.
use Rattle.std.proofs.Common.{◌≡◌, ℕ, List, [], ◌∷◌, ◌++◌, refl, ap, ◌∙◌, append_assoc}
use Rattle.std.specs.Prelude.{codes}
use Rattle.std.specs.Fmt.{decimal}
use Rattle.std.specs.List.{join_by, flat_map}

-- a number in digits, after a space
abbrev pub spaced_number : ℕ → List ℕ
spaced_number n = codes " " ++ decimal n

-- the numbers in digits, each after a space, but the first after `before`
abbrev pub spaced_numbers : List ℕ → List ℕ → List ℕ
spaced_numbers before [] = []
spaced_numbers before (n ∷ ns) = (before ++ decimal n) ++ flat_map spaced_number ns

-- numbers with one space between two are the first number, then each other number after a space
pub join_by-spaced_numbers : (ns : List ℕ) → join_by decimal (codes " ") ns ≡ spaced_numbers [] ns
join_by-spaced_numbers [] = refl
join_by-spaced_numbers (n ∷ ns) = refl

spaced_numbers-next : (ns : List ℕ) → flat_map spaced_number ns ≡ spaced_numbers (codes " ") ns
spaced_numbers-next [] = refl
spaced_numbers-next (n ∷ ns) = refl

-- the rest of a line begins with the first number that is left
pub spaced_numbers-more : (before left end : List ℕ) (n : ℕ) (rest : List ℕ) → left ≡ n ∷ rest
    → spaced_numbers before left ++ end ≡ (before ++ decimal n)
    ++ (spaced_numbers (codes " ") rest ++ end)
spaced_numbers-more before left end n rest is =
    ap (λ l. spaced_numbers before l ++ end) is
    ∙ ap (λ l. ((before ++ decimal n) ++ l) ++ end) (spaced_numbers-next rest)
    ∙ append_assoc (before ++ decimal n) (spaced_numbers (codes " ") rest) end
