-- The two orders in which the bits of each word are indexed.
use Rattle.std.specs.Prelude.{ℕ, ◌+◌, ◌-◌, ◌%◌, Bool, true, false}
use Rattle.bittle_bits.specs.PlainSet.{PlainSet}

-- the index i mirrored within its word of w bits: the first index of a word becomes the last one
unfoldable pub mirror : ℕ → ℕ → ℕ
mirror w i = (i - i % w) + (w - 1 - i % w)

-- the place of an index: the index of the same bit in big-endian order, which is the index itself
-- (for `false`) or the mirrored index (for `true`)
abbrev pub place : Bool → ℕ → ℕ → ℕ
place false w i = i
place true w i = mirror w i

-- the set s, which is given in big-endian order, as read in an order: mirrored within each word
-- (for `true`, little-endian order) or unchanged (for `false`, big-endian order)
abbrev pub read_in : Bool → ℕ → PlainSet → PlainSet
read_in mirrored w s = record { capacity = s.capacity; has = λ i. s.has (place mirrored w i) }
