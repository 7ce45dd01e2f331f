-- The set that a word stands for.
use Rattle.std.specs.Prelude.{Bool}
use Rattle.bittle_bits.specs.BitPatterns.{bit_set}
use Rattle.bittle_bits.specs.Orders.{read_in}
use Rattle.bittle_bits.specs.PlainSet.{PlainSet}
use Rattle.bittle_bits.specs.declared.word.Word as word

-- the set of the bits of a word, in big-endian order
abbrev pub bits_of : {W : Type 0} → word.Ghosts W → W → PlainSet
bits_of t v = bit_set t.width (t.pattern v)

-- the set of the bits of a word, mirrored if `mirrored` is true
abbrev pub word_mirrored : {W : Type 0} → word.Ghosts W → Bool → W → PlainSet
word_mirrored t mirrored v = read_in mirrored t.width (bits_of t v)
