use Rattle.std.proofs.Common.{◌≡◌, ◌<◌, sym, ap, ◌∙◌, arith}
use Rattle.bittle_bits.specs.Orders.{read_in}
use Rattle.bittle_bits.specs.PlainSet.{span_set}
use Rattle.bittle_bits.proofs.BitSets.{no_digits}
use Rattle.bittle_bits.proofs.Spans.{span-none, span_word, span_to_width}
use Rattle.bittle_bits.proofs.one_word.range.Goals as goal

pub returns-then-from-to : goal.returns-then-from-to
returns-then-from-to g c =
    let w = g.T.Word.width in
    ap (read_in g.E.Endian.mirrored w) (no_digits w _ c.zero.ensures)
    ∙ sym (span-none w c.args.from c.args.to (omega arith))

pub returns-then-to-width : goal.returns-then-to-width
returns-then-to-width g c =
    let m = g.E.Endian.mirrored in
    let w = g.T.Word.width in
    let all : c.args.to ≡ w = omega arith in
    span_to_width m w g.met.T.Word.width_positive c.args.from _ c.from_index-since.ensures
    ∙ ap (span_set w c.args.from) (sym all)

pub returns : goal.returns
returns g c =
    let w = g.T.Word.width in
    let below : c.args.to < w = omega arith in
    span_word g.E.Endian.mirrored w g.met.T.Word.width_positive c.args.from c.args.to _ _ _ _
    (omega arith) below c.from_index-since.ensures c.from_index.ensures c.not.ensures.range
    c.not.ensures.pattern c.and.ensures
