use Rattle.std.proofs.Common.{◌≡◌, ◌+◌, ◌-◌, sym, ap, ◌∙◌, arith}
use Rattle.bittle.specs.BitPatterns.{bit_set}
use Rattle.bittle.specs.Orders.{read_in}
use Rattle.bittle_ext.proofs.CopiedRanges.{copied-inside}
use Rattle.bittle_ext.proofs.NumberBits.{replaced_bits}
use Rattle.bittle_ext.proofs.numbers.with_first_bits.Goals as goal

pub returns-then-count-width_of : goal.returns-then-count-width_of
returns-then-count-width_of g c i h =
    let w = g.W.Word.width in
    let whole : c.args.count ≡ w = c.if-count-width_of.true ∙ c.width_of.ensures.width in
    let by = read_in g.E.Endian.mirrored w (bit_set w (g.W.Word.pattern c.args.by)) in
    let same : i - c.args.from + 0 ≡ i = omega (arith, whole, c.requires.within) in
    sym (copied-inside _ by c.args.from c.args.count 0 i
    (omega (arith, whole, c.requires.within)) (omega (arith, whole, h)) ∙ ap by.has same)

pub returns : goal.returns
returns g c i h =
    replaced_bits g.E.Endian.mirrored g.W.Word.width c.args.from c.args.count _ _ _ _ _ _ _ _
    g.met.W.Word.width_positive c.requires.within c.window_up_to-moved.ensures c.bits_from.ensures
    c.on_words-other.ensures c.on_words-change.ensures c.on_words.ensures i h
