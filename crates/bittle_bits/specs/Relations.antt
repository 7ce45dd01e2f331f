-- Relations of two sets.
use Rattle.std.specs.Prelude.{◌≡◌, ℕ, true, false}
use Rattle.bittle_bits.specs.PlainSet.{PlainSet}

-- each member of the first set is a member of the second
abbrev pub IsSubset : PlainSet → PlainSet → Type 0
IsSubset s t = (i : ℕ) → s.has i ≡ true → t.has i ≡ true

-- no number is a member of both sets
abbrev pub AreDisjoint : PlainSet → PlainSet → Type 0
AreDisjoint s t = (i : ℕ) → s.has i ≡ true → t.has i ≡ false
