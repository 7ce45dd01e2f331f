use Rattle.std.proofs.Common.{◌∙◌, ap, refl}
use Rattle.std.specs.Int.Bits.{and_zero_l, bit_and}
use Rattle.bittle_bits.proofs.BufferedWords.{dropped}
use Rattle.bittle_bits.proofs.WordSizes.{zero_lists_none}
use Rattle.bittle_bits.proofs.internal.buffer.unloaded.Goals as goal

pub returns-clause-sound : goal.returns-clause-sound
returns-clause-sound g c =
    let m = g.E.Endian.mirrored in
    let w = g.W.Word.width in
    let word = c.zero.result in
    let mask = c.if-is_mirrored-FRONT.result in
    let pattern = g.W.Word.pattern in
    let none = zero_lists_none m w (bit_and (pattern word) (pattern mask))
    (ap (λ d. bit_and d (pattern mask)) c.zero.ensures ∙ and_zero_l (pattern mask)) in
    (dropped m w pattern word mask 0 _ none refl).1
