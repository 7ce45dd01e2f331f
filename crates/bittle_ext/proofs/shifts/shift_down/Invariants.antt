use Rattle.std.proofs.Common.{◌≡◌, ◌*◌, nat_lt}
use Rattle.bittle.specs.Values.{set_in}
use Rattle.bittle_ext.specs.Rotations.{has_shifted_down}
use Rattle.bittle_ext.proofs.WordsReplaced.{replaced_where}
use Rattle.bittle_ext.proofs.shifts.shift_down.Given as goal

abbrev pub invariant-loop-k : goal.invariant-loop-k
invariant-loop-k g l =
    let s = set_in g.B.Shape g.E.Endian l.initial.set in
    record {
      replaced : set_in g.B.Shape g.E.Endian l.set
          ≡ replaced_where (λ i. nat_lt i (l.k * g.B.Shape.width)) (has_shifted_down s l.by) s;
      stays : g.B.Shape.loan l.initial.set ≡ g.B.Shape.loan l.set;
    }

abbrev pub invariant-loop-k-2 : goal.invariant-loop-k-2
invariant-loop-k-2 g l =
    let s = set_in g.B.Shape g.E.Endian l.fn.set in
    record {
      replaced : set_in g.B.Shape g.E.Endian l.set
          ≡ replaced_where (λ i. nat_lt i (l.k * g.B.Shape.width)) (has_shifted_down s l.by) s;
      stays : g.B.Shape.loan l.fn.set ≡ g.B.Shape.loan l.set;
    }
