use Rattle.std.proofs.Common.{◌≡◌, ◌*◌, ◌≤◌, refl, sym, ◌∙◌, arith}
use Rattle.std.proofs.Math.Nat.{mul-le-mul_right}
use Rattle.std.proofs.lemmas.Bool.{eqb-true, eqb-false}
use Rattle.bittle_bits.specs.Walk.{ones_or_zeros}
use Rattle.bittle_bits.proofs.OnesOrZeros.{ones_or_zeros-members}
use Rattle.bittle_bits.proofs.FirstOnes.{none_next, first_in_word, in_words, some_least}
use Rattle.bittle_bits.proofs.internal.by_fours.first_among.Goals as goal

pub returns-then-not-is_zero : goal.returns-then-not-is_zero
returns-then-not-is_zero g c =
    let w = g.B.Shape.width in
    let m = g.E.Endian.mirrored in
    let law = g.met.B.ReadWords in
    let k = c.loop-k.k in
    let wide : c.word_width-width.result ≡ w = c.word_width-width.ensures in
    let least = rw law.leaf_width at c.zeros.ensures in
    let some = eqb-false _ _ (sym c.is_zero.ensures.zero ∙ c.if-not-is_zero.true) in
    let low = some_least m w _ c.zeros.result law.width_positive
    (rw law.leaf_width at c.is_zero.ensures.range) some least in
    let begun : c.args.from * w ≤ k * w = mul-le-mul_right w c.loop-k.auto.k in
    let s = g.B.Shape.big c.args.bits.now in
    let same = ones_or_zeros-members g.K.Kind.ONES m w s law.width_positive (law.whole_words _) in
    rw (wide, same) (first_in_word m w (ones_or_zeros g.K.Kind.ONES s) law.width_positive
    (c.args.from * w) k _ c.word_of_kind-word.ensures (rw same at c.loop-k.invariant) c.zeros.result
    _ begun least low (in_words k c.args.to w _ (omega (arith, c.loop-k-test.true)) low))

pub loop-k-preserved : goal.loop-k-preserved
loop-k-preserved g c =
    let w = g.B.Shape.width in
    let m = g.E.Endian.mirrored in
    let law = g.met.B.ReadWords in
    let s = g.B.Shape.big c.args.bits.now in
    let same = ones_or_zeros-members g.K.Kind.ONES m w s law.width_positive (law.whole_words _) in
    rw same (none_next m w (ones_or_zeros g.K.Kind.ONES s) law.width_positive _ c.loop-k.k _
    c.word_of_kind-word.ensures (rw same at c.loop-k.invariant) _ refl
    (eqb-true _ _ (sym c.is_zero.ensures.zero ∙ c.if-not-is_zero.false)))
