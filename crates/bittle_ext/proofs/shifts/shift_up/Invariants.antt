use Rattle.std.proofs.Common.{◌≡◌, ◌+◌, ◌<◌, ◌≤◌, ◌*◌, nat_le}
use Rattle.bittle.specs.Values.{set_in}
use Rattle.bittle_ext.specs.Rotations.{has_shifted_up}
use Rattle.bittle_ext.proofs.WordsReplaced.{replaced_where}
use Rattle.bittle_ext.proofs.shifts.shift_up.Given as goal

abbrev pub invariant-loop-k : goal.invariant-loop-k
invariant-loop-k g l =
    let s = set_in g.B.Shape g.E.Endian l.initial.set in
    record {
      low : l.skipped ≤ l.k;
      high : l.k < l.words;
      replaced : set_in g.B.Shape g.E.Endian l.set ≡ replaced_where
          (λ i. nat_le ((l.k + 1) * g.B.Shape.width) i) (has_shifted_up s l.by) s;
      stays : g.B.Shape.loan l.initial.set ≡ g.B.Shape.loan l.set;
    }

abbrev pub decreases-loop-k : goal.decreases-loop-k
decreases-loop-k g l = l.k

abbrev pub invariant-loop-k-2 : goal.invariant-loop-k-2
invariant-loop-k-2 g l =
    let s = set_in g.B.Shape g.E.Endian l.fn.set in
    record {
      high : l.k ≤ l.skipped;
      replaced : set_in g.B.Shape g.E.Endian l.set
          ≡ replaced_where (λ i. nat_le (l.k * g.B.Shape.width) i) (has_shifted_up s l.by) s;
      stays : g.B.Shape.loan l.fn.set ≡ g.B.Shape.loan l.set;
    }

abbrev pub decreases-loop-k-2 : goal.decreases-loop-k-2
decreases-loop-k-2 g l = l.k
