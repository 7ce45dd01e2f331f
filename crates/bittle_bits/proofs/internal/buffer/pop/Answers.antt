use Rattle.std.proofs.Common.{◌∙◌, sym, arith}
use Rattle.std.proofs.lemmas.Bool.{eqb-false}
use Rattle.bittle_bits.specs.BitPatterns.{bit_set}
use Rattle.bittle_bits.specs.Orders.{place, read_in}
use Rattle.bittle_bits.specs.PlainSet.{ascending}
use Rattle.bittle_bits.proofs.BufferedWords.{left_by_all, taken_from_bits}
use Rattle.bittle_bits.proofs.WordEnds.{end_within, least_taken}
use Rattle.bittle_bits.proofs.internal.buffer.pop.Goals as goal

pub returns-then-not-lazily-clause-found : goal.returns-then-not-lazily-clause-found
returns-then-not-lazily-clause-found g c =
    rw (
      ← c.settle.ensures.word,
      left_by_all g.W.Word.width (g.W.Word.pattern c.pop_place.new.word) _ c.settle.ensures.mask,
    )
    (taken_from_bits g.N.End.FRONT (place g.E.Endian.mirrored g.W.Word.width)
    (λ bits. ascending (read_in g.E.Endian.mirrored g.W.Word.width bits))
    (λ v. bit_set g.W.Word.width (g.W.Word.pattern v)) c.pop_place.result c.settle.new.buffered.word
    c.pop_place.new.word c.pop_place.ensures.found)

pub overflow_sub-to_bits : goal.overflow_sub-to_bits
overflow_sub-to_bits g c =
    let some = eqb-false _ 0 (sym c.is_zero.ensures.zero ∙ c.if-is_zero.false) in
    omega (arith, c.to_bits.ensures.pattern, some)

pub returns-clause-within : goal.returns-clause-within
returns-clause-within g c =
    end_within g.N.End.FRONT g.E.Endian.mirrored _ _ _ g.met.W.Word.width_positive
    c.is_zero.ensures.range (eqb-false _ 0 (sym c.is_zero.ensures.zero ∙ c.if-is_zero.false))
    c.from_end.ensures.member

pub returns-clause-found : goal.returns-clause-found
returns-clause-found g c =
    rw (← c.settle.ensures.word, c.from_bits-buffered.ensures, c.to_bits.ensures.pattern)
    (least_taken g.N.End.FRONT g.E.Endian.mirrored _ _ _
    (rw (c.is_mirrored.ensures, c.FRONT.ensures) at c.if-is_mirrored-FRONT.false)
    c.from_end.ensures.member (returns-clause-within g c))
