-- What the operators of sets return.
use Rattle.std.specs.Prelude.{◌≡◌, ℕ, Bool}
use Rattle.bittle_bits.specs.Orders.{read_in}
use Rattle.bittle_bits.specs.PlainSet.{PlainSet}

-- in both orders, the set r is the result of the operation on s and t; the words have w bits
abbrev pub IsInBothOrders : (PlainSet → PlainSet → PlainSet) → ℕ → PlainSet → PlainSet → PlainSet →
    Type 0
IsInBothOrders operation w s t r = (mirrored : Bool) →
    read_in mirrored w r ≡ operation (read_in mirrored w s) (read_in mirrored w t)
