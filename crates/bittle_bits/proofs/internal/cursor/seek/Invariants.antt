use Rattle.std.proofs.Common.{◌≡◌, ◌-◌, ◌/◌, None}
use Rattle.bittle_bits.specs.Buffers.{buffer_of}
use Rattle.bittle_bits.specs.Cursor.{walk_of, IsCounted}
use Rattle.bittle_bits.specs.Values.{set_in}
use Rattle.bittle_bits.specs.Walk.{ones_or_zeros, Seeks}
use Rattle.bittle_bits.proofs.internal.cursor.seek.Given as goal

abbrev pub invariant-loop-at : goal.invariant-loop-at
invariant-loop-at g l =
    let s = ones_or_zeros g.K.Kind.ONES (set_in g.B.Shape g.E.Endian l.source.set.now) in
    let words = (g.B.Shape.big l.source.set.now).capacity / g.B.Shape.width in
    Seeks (walk_of s words g.B.Shape.width l.fn.at) (walk_of s words g.B.Shape.width l.at)
    × IsCounted words l.at × (buffer_of g.N.End.FRONT l.at.buffers ≡ None)

abbrev pub decreases-loop-at : goal.decreases-loop-at
decreases-loop-at g l = l.at.high - l.at.low
