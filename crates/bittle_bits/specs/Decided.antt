-- The result of an operation on two sets, and its least member.
use Rattle.std.specs.Prelude.{◌≡◌, ℕ, ◌<◌, Bool, true, false, ◌&&◌, nat_lt}
use Rattle.bittle_bits.specs.PlainSet.{PlainSet}

-- no number below n is a member of the result of the operation
abbrev pub NoneDecidedBelow : (Bool → Bool → Bool) → PlainSet → PlainSet → ℕ → Type 0
NoneDecidedBelow decide s t n = (i : ℕ) → i < n → decide (s.has i) (t.has i) ≡ false

-- d is the least member of the result of the operation
abbrev pub IsFirstDecided : (Bool → Bool → Bool) → PlainSet → PlainSet → ℕ → Type 0
IsFirstDecided decide s t d = NoneDecidedBelow decide s t d × (decide (s.has d) (t.has d) ≡ true)

-- whether a number is below n and a member of the result of the operation
unfoldable pub has_decided : (Bool → Bool → Bool) → ℕ → PlainSet → PlainSet → ℕ → Bool
has_decided decide n s t i = nat_lt i n && decide (s.has i) (t.has i)

-- the members below n of the result of the operation
abbrev pub decided_below : (Bool → Bool → Bool) → ℕ → PlainSet → PlainSet → PlainSet
decided_below decide n s t = record { capacity = n; has = has_decided decide n s t }
