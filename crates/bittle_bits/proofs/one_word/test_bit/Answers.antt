use Rattle.std.proofs.Common.{◌∙◌, ◌^◌, ap, not}
use Rattle.bittle_bits.proofs.WordCalls.{mask_set, word_tested}
use Rattle.bittle_bits.proofs.one_word.test_bit.Goals as goal

pub returns : goal.returns
returns g c =
    let one = mask_set g.E.Endian.mirrored g.T.Word.width c.args.index _
    g.met.T.Word.width_positive (c.one_at.ensures ∙ ap (λ p. 2 ^ p) c.place.ensures.place) in
    ap not c.is_zero.ensures.zero
    ∙ rw c.and.ensures (word_tested _ _ _ _ _ g.met.T.Word.width_positive one
    (rw c.and.ensures at c.is_zero.ensures.range))
