use Rattle.std.proofs.Common.{◌+◌, ◌*◌, refl, sym, ◌∙◌, arith}
use Rattle.std.proofs.lemmas.Bool.{eqb-true, eq-eqb}
use Rattle.bittle_bits.specs.Walk.{ones_or_zeros}
use Rattle.bittle_bits.proofs.OnesOrZeros.{ones_or_zeros-members}
use Rattle.bittle_bits.proofs.FirstOnes.{none_next, zero_if_none, each_within, each_is_zero}
use Rattle.bittle_bits.proofs.FirstOnes.{all_is_zero}
use Rattle.bittle_bits.proofs.internal.by_fours.are_four_empty.Goals as goal

pub returns : goal.returns
returns g c =
    let d = g.B.LeafWord.Word.pattern in
    let x0 = d c.word_of_kind-first.result in
    let x1 = d c.word_of_kind-second.result in
    let x2 = d c.word_of_kind-third.result in
    let x3 = d c.word_of_kind-fourth.result in
    let k = c.args.from in
    let w = g.B.Shape.width in
    let m = g.E.Endian.mirrored in
    let law = g.met.B.ReadWords in
    let s = g.B.Shape.big c.args.bits.now in
    let ours = ones_or_zeros g.K.Kind.ONES s in
    let same = ones_or_zeros-members g.K.Kind.ONES m w s law.width_positive (law.whole_words _) in
    let one = c.or.ensures in
    let two = c.or-2.ensures in
    let both = c.or-3.ensures in (
      λ empty.
          let none = each_is_zero x0 x1 x2 x3 _ _ _ one two both
          (eqb-true _ _ (sym c.is_zero.ensures.zero ∙ empty)) in
          let next = none_next m w ours law.width_positive (k * w) in
          rw same (next (k + 3) _ c.word_of_kind-fourth.ensures
          (next (k + 2) _ c.word_of_kind-third.ensures
          (next (k + 1) _ c.word_of_kind-second.ensures
          (next k _ c.word_of_kind-first.ensures (λ i after h. absurd (omega (arith, after, h)))
          _ refl none.0) _ (omega arith) none.1) _ (omega arith) none.2) _ (omega arith) none.3),
      λ none.
          let low = rw law.leaf_width at c.is_zero.ensures.range in
          let within = each_within x0 x1 x2 x3 _ _ _ one two both in
          let empty = rw same at none in
          c.is_zero.ensures.zero ∙ eq-eqb _ _ (all_is_zero x0 x1 x2 x3 _ _ _ one two both
          (zero_if_none m w ours k x0 law.width_positive (omega (arith, low, within.0))
          c.word_of_kind-first.ensures
          (λ i after h. empty i (omega (arith, after)) (omega (arith, h))))
          (zero_if_none m w ours (k + 1) x1 law.width_positive (omega (arith, low, within.1))
          c.word_of_kind-second.ensures
          (λ i after h. empty i (omega (arith, after)) (omega (arith, h))))
          (zero_if_none m w ours (k + 2) x2 law.width_positive (omega (arith, low, within.2))
          c.word_of_kind-third.ensures
          (λ i after h. empty i (omega (arith, after)) (omega (arith, h))))
          (zero_if_none m w ours (k + 3) x3 law.width_positive (omega (arith, low, within.3))
          c.word_of_kind-fourth.ensures
          (λ i after h. empty i (omega (arith, after)) (omega (arith, h))))),
    )
