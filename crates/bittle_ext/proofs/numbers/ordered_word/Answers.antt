use Rattle.std.proofs.Common.{ap, ◌∙◌}
use Rattle.bittle.specs.BitPatterns.{bit_set}
use Rattle.bittle_ext.proofs.NumberBits.{read_twice}
use Rattle.bittle_ext.proofs.numbers.ordered_word.Goals as goal

pub returns-clause-to_indexes : goal.returns-clause-to_indexes
returns-clause-to_indexes g c =
    let w = g.W.Word.width in
    read_twice g.E.Endian.mirrored w (bit_set w (g.W.Word.pattern c.args.word)) _
    g.met.W.Word.width_positive (ap (bit_set w) c.from_bits.ensures ∙ c.number_of.ensures.set)
