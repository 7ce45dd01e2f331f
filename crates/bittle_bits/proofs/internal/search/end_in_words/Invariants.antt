use Rattle.std.proofs.Common.{◌-◌, cond}
use Rattle.bittle_bits.specs.Orders.{read_in}
use Rattle.bittle_bits.specs.Walk.{ones_or_zeros}
use Rattle.bittle_bits.proofs.Searches.{Searches, words_from, words_to}
use Rattle.bittle_bits.proofs.internal.search.end_in_words.Given as goal

abbrev pub invariant-loop-found : goal.invariant-loop-found
invariant-loop-found g l =
    let m = g.E.Endian.mirrored in
    let w = g.B.Shape.width in
    Searches g.N.End.FRONT m w (ones_or_zeros g.K.Kind.ONES (read_in m w (g.B.Shape.big l.bits)))
    (words_from g.N.End.FRONT w l.fn.first l.fn.at) (words_to g.N.End.FRONT w l.fn.last l.fn.at)
    l.fn.first l.fn.last l.k (g.B.LeafWord.Word.pattern l.word)

abbrev pub decreases-loop-found : goal.decreases-loop-found
decreases-loop-found g l = cond g.N.End.FRONT (l.fn.last - l.k) (l.k - l.fn.first)
