-- The two ends of a list.
use Rattle.std.specs.Prelude.{◌≡◌, List, [], ◌∷◌, ◌++◌, Option, None, MatchOption, ℕ}

-- `first` is the first item of a list, and `last` is the last of the other items; each is None if
-- there is no such item
abbrev pub AreEnds : List ℕ → Option ℕ → Option ℕ → Type 0
AreEnds items first last =
    MatchOption first ((items ≡ []) × (last ≡ None))
    (λ a. MatchOption last (items ≡ a ∷ [])
    (λ b. (between : List ℕ) × (items ≡ a ∷ (between ++ b ∷ []))))
