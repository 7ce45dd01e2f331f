use Rattle.std.proofs.Common.{◌-◌, ap, sym, ◌∙◌}
use Rattle.bittle_bits.proofs.FromIndex.{big_from, little_from}
use Rattle.bittle_bits.proofs.endian.Endian.from_index.Goals as goal

pub returns-then-is_mirrored : goal.returns-then-is_mirrored
returns-then-is_mirrored g c =
    rw (sym c.is_mirrored.ensures ∙ c.if-is_mirrored.true)
    (little_from g.T.Word.width c.args.index (c.width.result - 1 - c.args.index)
    (g.T.Word.pattern c.low.result) (g.T.Word.pattern c.one_at.result) _ c.requires
    (ap (λ w. w - 1 - c.args.index) c.width.ensures) c.low.ensures c.one_at.ensures c.or.ensures)

pub returns-else-is_mirrored : goal.returns-else-is_mirrored
returns-else-is_mirrored g c =
    rw (sym c.is_mirrored.ensures ∙ c.if-is_mirrored.false)
    (big_from g.T.Word.width c.args.index (g.T.Word.pattern c.low-else-is_mirrored.result) _
    c.requires c.low-else-is_mirrored.ensures c.not.ensures.range c.not.ensures.pattern)
