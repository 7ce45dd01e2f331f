use Rattle.std.proofs.Common.{◌≡◌, ◌*◌, nat_lt}
use Rattle.bittle.specs.Values.{set_in}
use Rattle.bittle_ext.specs.Rotations.{has_rotated}
use Rattle.bittle_ext.proofs.WordsReplaced.{replaced_where}
use Rattle.bittle_ext.proofs.rotations.rotate_within.Given as goal

abbrev pub invariant-loop-k : goal.invariant-loop-k
invariant-loop-k g l =
    let s = set_in g.B.Shape g.E.Endian l.set in
    set_in g.B.Shape g.E.Endian l.result
    ≡ replaced_where (λ i. nat_lt i (l.k * g.B.Shape.width)) (has_rotated s l.by) s

abbrev pub invariant-loop-k-2 : goal.invariant-loop-k-2
invariant-loop-k-2 g l =
    let s = set_in g.B.Shape g.E.Endian l.set in
    set_in g.B.Shape g.E.Endian l.result
    ≡ replaced_where (λ i. nat_lt i (l.k * g.B.Shape.width)) (has_rotated s l.by) s
