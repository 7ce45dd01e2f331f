use Rattle.std.proofs.Common.{sym, ap, ◌∙◌, arith}
use Rattle.bittle_bits.specs.BitPatterns.{bit_set}
use Rattle.bittle_bits.specs.Orders.{read_in}
use Rattle.bittle_bits.specs.PlainSet.{ascending}
use Rattle.bittle_bits.proofs.IteratorRuns.{list_in_order, list_in_reverse}
use Rattle.bittle_bits.proofs.OnesOrZeros.{ones_or_zeros-members, ones_or_zeros-below}
use Rattle.bittle_bits.proofs.number.Iter.new.Goals as goal

pub returns-clause-items : goal.returns-clause-items
returns-clause-items g c =
    let m = g.E.Endian.mirrored in
    let w = g.T.Word.width in
    ap (λ s. ascending (read_in m w s)) c.bits_of_kind.ensures
    ∙ ap ascending (sym (ones_or_zeros-members g.K.Kind.ONES m w
    (bit_set w (g.T.Word.pattern c.args.word)) g.met.T.Word.width_positive
    (1, omega arith)))

pub returns-clause-below : goal.returns-clause-below
returns-clause-below g c = ones_or_zeros-below g.K.Kind.ONES
    (read_in g.E.Endian.mirrored g.T.Word.width
    (bit_set g.T.Word.width (g.T.Word.pattern c.args.word))) _ (returns-clause-items g c)

pub returns-clause-in_order : goal.returns-clause-in_order
returns-clause-in_order g c = list_in_order

pub returns-clause-in_reverse : goal.returns-clause-in_reverse
returns-clause-in_reverse g c = list_in_reverse
