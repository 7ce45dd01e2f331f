use Rattle.std.proofs.Common.{arith}
use Rattle.bittle_bits.proofs.PlaceLemmas.{mirror_in_word}
use Rattle.bittle_bits.proofs.internal.buffer.index_at.Goals as goal

pub returns-then-is_mirrored : goal.returns-then-is_mirrored
returns-then-is_mirrored g c =
    let edge = (rw (← c.if-is_mirrored.ensures) at c.requires.edge.1) in
    rw (← c.if-is_mirrored.ensures)
    (omega (arith, edge, mirror_in_word g.W.Word.width c.args.at c.requires.within))
