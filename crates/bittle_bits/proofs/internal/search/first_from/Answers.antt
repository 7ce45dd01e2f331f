use Rattle.std.proofs.Common.{◌≡◌, ◌+◌, ◌*◌, sym, arith}
use Rattle.bittle_bits.proofs.Words.{word_ends}
use Rattle.bittle_bits.proofs.internal.search.first_from.Goals as goal

pub returns : goal.returns
returns g c =
    let law = g.met.B.ReadWords in
    let w = g.B.Shape.width in
    let last = c.ends-first.result.2 in
    let capacity = (g.B.Shape.big c.args.bits.now).capacity in
    let is = c.capacity-capacity.ensures.value c.requires in
    let at = rw (c.word_width.ensures, is) at c.ends-first.ensures in
    let ends = word_ends w last capacity (law.whole_words c.args.bits.now)
    (omega (arith, at.to)) in
    let end : last * w + w ≡ capacity = omega (arith, at.to, at.top, ends) in
    rw (sym at.from, end) at c.end_in_words.ensures
