use Rattle.std.proofs.Common.{◌*◌}
use Rattle.bittle_bits.specs.Searches.{NoneIn}
use Rattle.bittle_bits.specs.Values.{kind_in}
use Rattle.bittle_bits.proofs.internal.by_fours.first_among.Given as goal

abbrev pub invariant-loop-k : goal.invariant-loop-k
invariant-loop-k g l = NoneIn (kind_in g.B.Shape g.E.Endian g.K.Kind l.bits)
    (l.fn.from * g.B.Shape.width) (l.k * g.B.Shape.width)
