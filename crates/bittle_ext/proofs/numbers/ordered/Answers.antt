use Rattle.std.proofs.Common.{◌≡◌, true, sym, ◌∙◌}
use Rattle.bittle_ext.proofs.NumberBits.{ordered_fits, ordered_set}
use Rattle.bittle_ext.proofs.numbers.ordered.Goals as goal

pub returns-then-is_mirrored-clause-fits : goal.returns-then-is_mirrored-clause-fits
returns-then-is_mirrored-clause-fits g c =
    let of = c.width_of.ensures in
    rw (of.width) (ordered_fits g.W.Word.width c.args.bits c.reversed.result
    g.met.W.Word.width_positive
    of.within c.reversed.ensures c.reversed.type_inv)

pub returns-then-is_mirrored-clause-set : goal.returns-then-is_mirrored-clause-set
returns-then-is_mirrored-clause-set g c =
    let of = c.width_of.ensures in
    let e : g.E.Endian.mirrored ≡ true = sym c.is_mirrored.ensures ∙ c.if-is_mirrored.true in
    rw (e, of.width) (ordered_set g.W.Word.width c.args.bits c.reversed.result
    g.met.W.Word.width_positive of.within c.reversed.ensures)
