use Rattle.std.proofs.Common.{sym}
use Rattle.bittle_bits.proofs.PlainSets.{complement-members}
use Rattle.bittle_ext.proofs.views.complement.Complement.of.Goals as goal

pub returns-clause-set : goal.returns-clause-set
returns-clause-set g c = sym (complement-members g.B.Order.Endian.mirrored g.B.Shape.width
    (g.B.Shape.big c.args.set.now) g.met.B.ReadWords.width_positive
    (g.met.B.ReadWords.whole_words c.args.set.now))
