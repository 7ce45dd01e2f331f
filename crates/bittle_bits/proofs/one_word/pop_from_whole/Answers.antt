use Rattle.std.proofs.Common.{◌∙◌, refl, sym, arith}
use Rattle.std.proofs.lemmas.Bool.{eqb-true, eqb-false}
use Rattle.bittle_bits.proofs.WordEnds.{end_within, least_taken, greatest_taken}
use Rattle.bittle_bits.proofs.WordSizes.{zero_lists_none}
use Rattle.bittle_bits.proofs.one_word.pop_from_whole.Goals as goal

pub returns-then-is_zero-clause-found : goal.returns-then-is_zero-clause-found
returns-then-is_zero-clause-found g c = (
  zero_lists_none _ _ _ (eqb-true _ 0 (sym c.is_zero.ensures.zero ∙ c.if-is_zero.true)),
  refl,
)

pub overflow_sub-place-then-is_mirrored-FRONT : goal.overflow_sub-place-then-is_mirrored-FRONT
overflow_sub-place-then-is_mirrored-FRONT g c =
    let within = end_within g.N.End.FRONT g.E.Endian.mirrored _ _ _ g.met.T.Word.width_positive
    c.is_zero.ensures.range (eqb-false _ 0 (sym c.is_zero.ensures.zero ∙ c.if-is_zero.false))
    c.from_end-away.ensures.member in
    omega (arith, within, c.width.ensures)

pub returns-then-is_mirrored-FRONT-clause-found : goal.returns-then-is_mirrored-FRONT-clause-found
returns-then-is_mirrored-FRONT-clause-found g c =
    let within = end_within g.N.End.FRONT g.E.Endian.mirrored _ _ _ g.met.T.Word.width_positive
    c.is_zero.ensures.range (eqb-false _ 0 (sym c.is_zero.ensures.zero ∙ c.if-is_zero.false))
    c.from_end-away.ensures.member in
    rw (c.width.ensures, c.and.ensures) (greatest_taken g.N.End.FRONT g.E.Endian.mirrored _ _ _ _ _
    (rw (c.is_mirrored.ensures, c.FRONT.ensures) at c.if-is_mirrored-FRONT.true)
    (rw c.width.ensures at c.one_at.ensures) c.not.ensures.range c.not.ensures.pattern
    c.from_end-away.ensures.member within)

pub returns-else-is_mirrored-FRONT-clause-within :
    goal.returns-else-is_mirrored-FRONT-clause-within
returns-else-is_mirrored-FRONT-clause-within g c =
    end_within g.N.End.FRONT g.E.Endian.mirrored _ _ _ g.met.T.Word.width_positive
    c.is_zero.ensures.range (eqb-false _ 0 (sym c.is_zero.ensures.zero ∙ c.if-is_zero.false))
    c.from_end-away.ensures.member

pub returns-else-is_mirrored-FRONT-clause-found : goal.returns-else-is_mirrored-FRONT-clause-found
returns-else-is_mirrored-FRONT-clause-found g c =
    rw (c.and-else-is_mirrored-FRONT.ensures, c.from_bits.ensures, c.to_bits.ensures.pattern)
    (least_taken g.N.End.FRONT g.E.Endian.mirrored _ _ _
    (rw (c.is_mirrored.ensures, c.FRONT.ensures) at c.if-is_mirrored-FRONT.false)
    c.from_end-away.ensures.member (returns-else-is_mirrored-FRONT-clause-within g c))
