use Rattle.std.proofs.Common.{arith}
use Rattle.std.proofs.Math.Nat.{mul-le-mul_right}
use Rattle.bittle_bits.proofs.Searches.{search_start, search_next, search_found, search_ended}
use Rattle.bittle_bits.proofs.Searches.{words_begin, words_lie, words_within}
use Rattle.bittle_bits.proofs.WordEnds.{end_is_member}
use Rattle.bittle_bits.proofs.Words.{word_ends}
use Rattle.bittle_bits.proofs.internal.search.end_in_words.Goals as goal

pub loop-found-init : goal.loop-found-init
loop-found-init g c =
    let law = g.met.B.ReadWords in
    let front = g.N.End.FRONT in
    rw c.and-word.ensures (search_start g.K.Kind.ONES _ _ (g.B.Shape.big c.args.bits.now)
    law.width_positive (law.whole_words _)
    (words_lie front _ _ _ _ c.requires.index c.requires.ordered) front _ _ _ _
    c.at_end-k.ensures (words_begin front g.B.Shape.width c.args.at) c.word_of_kind.ensures
    (rw law.leaf_width at c.ahead-mask.ensures))

pub overflow_add-found : goal.overflow_add-found
overflow_add-found g c =
    let law = g.met.B.ReadWords in
    let wide = c.word_width-width.ensures in
    let inv = c.loop-found.invariant in
    let begins = mul-le-mul_right g.B.Shape.width inv.last in
    let ends = word_ends _ c.loop-found.k _ (law.whole_words c.args.bits.now)
    (omega (arith, begins, c.requires.within)) in
    let low = (end_is_member g.N.End.FRONT _ _ (rw law.leaf_width at c.from_end-away.ensures.member)
    (omega (arith, c.from_end-away.ensures.within, rw wide at c.if-away-width.true))).0 in
    rw (c.at_end.ensures, wide) (omega (arith, ends, low, c.requires.fits.1))

pub returns-then-away-width : goal.returns-then-away-width
returns-then-away-width g c =
    let law = g.met.B.ReadWords in
    let wide = c.word_width-width.ensures in
    let front = g.N.End.FRONT in
    let inv = c.loop-found.invariant in
    let some = rw wide at c.if-away-width.true in
    let member = rw law.leaf_width at c.from_end-away.ensures.member in
    rw (c.at_end.ensures, wide) (search_found g.K.Kind.ONES g.E.Endian.mirrored g.B.Shape.width
    (g.B.Shape.big c.args.bits.now) law.width_positive (law.whole_words _)
    (words_lie front _ _ _ _ c.requires.index c.requires.ordered) front c.loop-found.k _
    c.from_end-away.result inv member some
    (words_within front _ c.args.first c.args.last c.args.at c.loop-found.k _ inv.first inv.last
    (omega (arith, rw law.leaf_width at c.from_end-away.ensures.within, some))))

pub returns-in_default : goal.returns-in_default
returns-in_default g c =
    let law = g.met.B.ReadWords in
    let wide = c.word_width-width.ensures in
    let front = g.N.End.FRONT in
    search_ended g.K.Kind.ONES g.E.Endian.mirrored g.B.Shape.width (g.B.Shape.big c.args.bits.now)
    law.width_positive (law.whole_words _)
    (words_lie front _ _ _ _ c.requires.index c.requires.ordered) front c.loop-found.k _
    c.from_end-away.result (rw c.in_default.is at (c.next_word.ensures g.E.Endian.mirrored))
    c.loop-found.invariant (rw law.leaf_width at c.from_end-away.ensures.member)
    (rw wide at c.if-away-width.false)

pub loop-found-preserved : goal.loop-found-preserved
loop-found-preserved g c =
    let law = g.met.B.ReadWords in
    let wide = c.word_width-width.ensures in
    let front = g.N.End.FRONT in
    search_next _ _ _ _ law.width_positive (law.whole_words _)
    (words_lie front _ _ _ _ c.requires.index c.requires.ordered) front c.loop-found.k _
    c.from_end-away.result _ _ (rw c.in-Some.is at (c.next_word.ensures g.E.Endian.mirrored))
    c.loop-found.invariant (rw law.leaf_width at c.from_end-away.ensures.member)
    (rw wide at c.if-away-width.false) c.word_of_kind-word.ensures
