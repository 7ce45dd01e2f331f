-- Which of the bytes to write were written, and which are left. `old` and `new` are the contents of
-- the writer before and after. None means that the contents are not known.
use Rattle.std.specs.Prelude.{◌≡◌, List, ℕ, Option, Result, ◌++◌, MatchResult}
use Rattle.std.specs.Io.KnownBytes.{Appends}

-- the contents grew by a beginning of `bytes`
pub record AppendsBeginning (old new : Option (List ℕ)) (bytes : List ℕ) : Type 0 where
  pub front : List ℕ
  pub rest : List ℕ
  pub split : bytes ≡ front ++ rest
  pub appends : Appends old new front

-- the contents grew by a beginning of `all`, and `left` is the rest of `all`
pub record HasBegun (old new : Option (List ℕ)) (all left : List ℕ) : Type 0 where
  pub done : List ℕ
  pub appends : Appends old new done
  pub split : all ≡ done ++ left

-- at `Ok` the contents grew by `bytes`, at `Err` by a beginning of `bytes`
abbrev pub Writes : {T E : Type 0} → Option (List ℕ) → Option (List ℕ) → Result T E → List ℕ →
    Type 0
Writes old new r bytes = MatchResult r (λ _. Appends old new bytes)
    (λ _. AppendsBeginning old new bytes)

-- the contents grew by a beginning of `all`, and at `Ok` the rest of `all` is `left`
abbrev pub Begins : {T E : Type 0} → Option (List ℕ) → Option (List ℕ) → Result T E → List ℕ →
    List ℕ → Type 0
Begins old new r all left = MatchResult r (λ _. HasBegun old new all left)
    (λ _. AppendsBeginning old new all)
