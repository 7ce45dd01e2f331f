-- The value of a count, which is kept as a sum.
use Rattle.std.specs.Prelude.{ℕ, ◌+◌}
use Rattle.bittle_bits.specs.declared.internal.buffer.Sum.{Sum, Of, And'}

-- the number that a sum stands for: the value of the count
abbrev pub sum_of : Sum → ℕ
sum_of (Of number) = number.value
sum_of (And' shape within one also below two) = sum_of one + sum_of two
