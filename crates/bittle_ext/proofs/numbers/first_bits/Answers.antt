use Rattle.bittle_ext.proofs.NumberBits.{first_of_ones}
use Rattle.bittle_ext.proofs.numbers.first_bits.Goals as goal

pub returns : goal.returns
returns g c i h =
    let w = g.W.Word.width in
    first_of_ones g.E.Endian.mirrored w c.args.count _ _ _ i g.met.W.Word.width_positive h
    c.requires.within c.zero-unset.ensures c.not.ensures.range c.not.ensures.pattern
    (rw c.width_of.ensures.width at c.window.ensures)
