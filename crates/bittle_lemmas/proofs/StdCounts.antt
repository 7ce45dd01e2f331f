-- What Rust's own count of the set bits of an integer tells of its set.
use Rattle.std.proofs.Common.{◌≡◌, ℕ, ◌<◌, ◌^◌}
use Rattle.std.specs.Prelude.{count_ones}
use Rattle.bittle.specs.BitPatterns.{bit_set}
use Rattle.bittle.specs.PlainSet.{size}
use Rattle.bittle_bits.proofs.WordSizes.{size-bit_set}

-- the count is the size of the set
pub std_count_ones : (w d n : ℕ) → n ≡ count_ones d → d < 2 ^ w → n ≡ size (bit_set w d)
std_count_ones = size-bit_set
