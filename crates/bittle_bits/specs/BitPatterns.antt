-- The bits of one word as a set.
use Rattle.std.specs.Prelude.{ℕ, Bool, ◌&&◌, nat_lt, ◌==◌}
use Rattle.std.specs.Int.{bit_at}
use Rattle.bittle_bits.specs.PlainSet.{PlainSet}

-- whether the bit of weight 2 ^ k is set in a word of w bits that has this pattern
unfoldable pub bit_has : ℕ → ℕ → ℕ → Bool
bit_has w pattern k = nat_lt k w && (bit_at pattern k == 1)

-- the set of the indexes, in big-endian order, of the set bits of a word of w bits that has this
-- pattern
abbrev pub bit_set : ℕ → ℕ → PlainSet
bit_set w pattern = record { capacity = w; has = bit_has w pattern }
