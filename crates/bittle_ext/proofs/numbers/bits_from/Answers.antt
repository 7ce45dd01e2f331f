use Rattle.bittle_ext.proofs.NumberBits.{first_moved}
use Rattle.bittle_ext.proofs.numbers.bits_from.Goals as goal

pub returns : goal.returns
returns g c i h =
    first_moved g.E.Endian.mirrored g.W.Word.width c.args.from c.args.count _ _ _ i h
    c.requires.within c.zero.ensures c.first_bits.ensures c.window_up_to.ensures
