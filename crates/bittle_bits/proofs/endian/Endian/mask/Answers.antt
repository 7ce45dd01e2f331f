use Rattle.std.proofs.Common.{◌-◌, ◌%◌, ◌^◌, ap, sym, ◌∙◌, false}
use Rattle.bittle_bits.proofs.WordCalls.{mask_set, mirrored_mask}
use Rattle.bittle_bits.proofs.endian.Endian.mask.Goals as goal

pub returns-then-is_mirrored : goal.returns-then-is_mirrored
returns-then-is_mirrored g c =
    rw (sym c.is_mirrored.ensures ∙ c.if-is_mirrored.true)
    (mirrored_mask g.T.Word.width c.args.index (g.T.Word.pattern c.one_below_top.result)
    g.met.T.Word.width_positive
    (c.one_below_top.ensures
    ∙ ap (λ w. 2 ^ (g.T.Word.width - 1 - c.args.index % w)) c.width.ensures))

pub returns-else-is_mirrored : goal.returns-else-is_mirrored
returns-else-is_mirrored g c =
    rw (sym c.is_mirrored.ensures ∙ c.if-is_mirrored.false)
    (mask_set false g.T.Word.width c.args.index (g.T.Word.pattern c.one_at.result)
    g.met.T.Word.width_positive
    (c.one_at.ensures ∙ ap (λ w. 2 ^ (c.args.index % w)) c.width.ensures))
