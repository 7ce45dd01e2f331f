use Rattle.std.proofs.Common.{◌+◌, ◌*◌, sym, ap, ◌∙◌, arith}
use Rattle.bittle_bits.specs.Buffers.{members_between}
use Rattle.bittle_bits.specs.Walk.{ones_or_zeros}
use Rattle.bittle_bits.proofs.Items.{items_of-word}
use Rattle.bittle_bits.proofs.OnesOrZeros.{ones_or_zeros-members}
use Rattle.bittle_bits.proofs.Words.{word_ends}
use Rattle.bittle_bits.proofs.internal.buffer.Buffers.fetch.Goals as goal

pub returns-clause-items : goal.returns-clause-items
returns-clause-items g c =
    let w = g.B.Shape.width in
    let k = c.args.k in
    let m = g.E.Endian.mirrored in
    let ones = g.K.Kind.ONES in
    let big = g.B.Shape.big c.args.source.now.set.now in
    let word = g.met.B.ReadWords.width_positive in
    rw g.met.B.ReadWords.leaf_width (items_of-word m w k (ones_or_zeros ones big) _ word
    c.fetch.ensures.word
    ∙ ap (λ s. members_between s (k * w) (k * w + w))
    (sym (ones_or_zeros-members ones m w big word
    (g.met.B.ReadWords.whole_words c.args.source.now.set.now))))

pub returns-clause-reach : goal.returns-clause-reach
returns-clause-reach g c =
    let e = word_ends g.B.Shape.width c.args.k _
    (g.met.B.ReadWords.whole_words c.args.source.now.set.now) c.requires.within in
    rw g.met.B.ReadWords.leaf_width (omega (arith, e, c.requires.fits.1))
