use Rattle.std.proofs.Common.{Bool, sym, ap, ◌∙◌}
use Rattle.bittle_bits.specs.BitPatterns.{bit_set}
use Rattle.bittle_bits.specs.Walk.{ones_or_zeros}
use Rattle.bittle_bits.proofs.OnesOrZeros.{digits_of_complement}
use Rattle.bittle_bits.proofs.kind.bits_of_kind.Goals as goal

pub returns-else-ONES : goal.returns-else-ONES
returns-else-ONES g c =
    let w = g.T.Word.width in
    let of = λ (b : Bool). ones_or_zeros b (bit_set w (g.T.Word.pattern c.args.word)) in
    digits_of_complement w _ _ c.not.ensures.range c.not.ensures.pattern
    ∙ ap of (sym c.if-ONES.false ∙ c.ONES.ensures)
