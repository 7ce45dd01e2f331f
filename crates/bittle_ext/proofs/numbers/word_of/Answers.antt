use Rattle.std.proofs.Common.{ap, ◌∙◌}
use Rattle.bittle.specs.BitPatterns.{bit_set}
use Rattle.bittle.specs.Orders.{read_in}
use Rattle.bittle_ext.proofs.NumberBits.{read_twice}
use Rattle.bittle_ext.proofs.numbers.word_of.Goals as goal

pub returns : goal.returns
returns g c =
    let w = g.W.Word.width in
    let m = g.E.Endian.mirrored in
    ap (λ d. read_in m w (bit_set w d)) c.from_bits.ensures
    ∙ read_twice m w (bit_set w c.args.number) _ g.met.W.Word.width_positive c.ordered.ensures.set
