use Rattle.std.proofs.Common.{ap, ◌∙◌}
use Rattle.bittle.specs.PlainSet.{PlainSet}
use Rattle.bittle.specs.Values.{set_in}
use Rattle.bittle_ext.proofs.NumberBits.{bits_of_first}
use Rattle.bittle_ext.proofs.copies.number_near.Goals as goal

pub returns-clause-bits : goal.returns-clause-bits
returns-clause-bits g c =
    let b = g.met.B.ReadWords in
    bits_of_first g.B.Shape.width c.args.first c.args.count _ _
    (set_in g.B.Shape g.E.Endian c.args.set.now) c.requires.within c.low_bits_of.ensures
    (λ i h. ap (λ (u : PlainSet). u.has i) (rw b.leaf_width at c.number_of.ensures.set)
    ∙ c.word_near-word.ensures i h)
