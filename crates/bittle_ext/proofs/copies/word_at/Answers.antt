use Rattle.std.proofs.Common.{◌≡◌, ◌+◌, ◌<◌, ◌&&◌, true, false, inl, inr, refl, sym, ap, ◌∙◌, arith}
use Rattle.std.proofs.Math.Bool.{and-true}
use Rattle.std.proofs.lemmas.Bool.{and_right, cases_lt}
use Rattle.bittle.specs.BitPatterns.{bit_set}
use Rattle.bittle.specs.Orders.{place, read_in}
use Rattle.bittle_bits.proofs.BitSets.{bit_has-zero}
use Rattle.bittle_bits.proofs.Spans.{is_in_span-inside, is_in_span-outside}
use Rattle.bittle_ext.proofs.NumberBits.{cut_to_first}
use Rattle.bittle_ext.proofs.copies.word_at.Goals as goal

pub returns-then-end-eq0 : goal.returns-then-end-eq0
returns-then-end-eq0 g c i h =
    let w = g.B.Shape.width in
    let m = g.E.Endian.mirrored in
    ap (λ p. p (place m w i)) (bit_has-zero w _ c.zero.ensures)
    ∙ sym (c.capacity_of.ensures.ends.past (c.args.first + i) (omega (
      arith,
      h,
      c.capacity_of.ensures.ends.capacity,
      c.saturating_sub.ensures,
      c.min-end.ensures,
      c.if-end-eq0.true,
    )))

pub returns : goal.returns
returns g c i h =
    let b = g.met.B.ReadWords in
    let w = g.B.Shape.width in
    let m = g.E.Endian.mirrored in
    let end = c.min-end.result in
    let here = (read_in m w (bit_set w (g.B.LeafWord.Word.pattern c.word_near-word.result))).has
    i in
    let inside : i < w = omega (arith, h, c.requires.within) in
    cut_to_first m w end _ _ _ i b.width_positive inside
    ((rw b.leaf_width at c.first_bits.ensures) i inside) (rw b.leaf_width at c.on_words.ensures)
    ∙ elim (cases_lt i end) [
      | inl l ↦ ap (λ x. here && x) (is_in_span-inside 0 end i (omega arith) l)
          ∙ and-true here ∙ c.word_near-word.ensures i l
      | inr far ↦ ap (λ x. here && x) (is_in_span-outside 0 end i (inr far))
          ∙ and_right here false refl
          ∙ sym (c.capacity_of.ensures.ends.past (c.args.first + i) (omega (
            arith,
            far,
            c.capacity_of.ensures.ends.capacity,
            c.saturating_sub.ensures,
            c.min-end.ensures,
            c.if-end-count.false,
          )))
    ]
