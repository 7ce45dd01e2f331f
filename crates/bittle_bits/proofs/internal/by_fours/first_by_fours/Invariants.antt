use Rattle.std.proofs.Common.{◌+◌, ◌*◌}
use Rattle.bittle_bits.specs.Searches.{NoneIn}
use Rattle.bittle_bits.specs.Values.{kind_in}
use Rattle.bittle_bits.proofs.internal.by_fours.first_by_fours.Given as goal

abbrev pub invariant-loop-four : goal.invariant-loop-four
invariant-loop-four g l =
    let w = g.B.Shape.width in NoneIn (kind_in g.B.Shape g.E.Endian g.K.Kind l.bits)
    (l.fn.from * w) ((l.fn.from + l.four * 4) * w)
