use Rattle.std.proofs.Common.{sym, ◌∙◌}
use Rattle.bittle_bits.proofs.WordEnds.{least_digit, greatest_digit, mirrored_greatest}
use Rattle.bittle_bits.proofs.endian.Endian.zeros_rev.Goals as goal

pub returns-then-is_mirrored : goal.returns-then-is_mirrored
returns-then-is_mirrored g c =
    rw (sym c.is_mirrored.ensures ∙ c.if-is_mirrored.true)
    (rw c.trailing_zeros.ensures.count (mirrored_greatest _ _ _ (least_digit _ _)))

pub returns-else-is_mirrored : goal.returns-else-is_mirrored
returns-else-is_mirrored g c =
    rw (sym c.is_mirrored.ensures ∙ c.if-is_mirrored.false)
    (rw c.leading_zeros.ensures.count (greatest_digit _ _ c.leading_zeros.ensures.range))
