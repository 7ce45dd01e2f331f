-- The bits of a set as text.
use Rattle.std.specs.Prelude.{ℕ, zero, suc, Bool, List, [], ◌++◌, codes, if◌then◌else◌}
use Rattle.bittle.specs.PlainSet.{PlainSet}

-- the digit of a bit: 1 if the bit is true, else 0
abbrev pub digit : Bool → List ℕ
digit bit = if bit then codes "1" else codes "0"

-- one digit for each number below a given one, from the greatest number down to 0; the digit is 1
-- if the number passes the test p
unfoldable pub digits_below : (ℕ → Bool) → ℕ → List ℕ
digits_below p zero = []
digits_below p (suc n) = digit (p n) ++ digits_below p n

-- one digit for each number below the capacity, from the greatest number down to 0; the digit of a
-- member is 1
abbrev pub binary_text : PlainSet → List ℕ
binary_text s = digits_below s.has s.capacity
