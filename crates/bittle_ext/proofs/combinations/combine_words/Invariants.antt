use Rattle.std.proofs.Common.{◌≡◌, ◌*◌, nat_lt}
use Rattle.bittle.specs.Values.{set_in}
use Rattle.bittle_ext.proofs.CombinedSets.{combined, TellsBelow}
use Rattle.bittle_ext.proofs.WordsReplaced.{replaced_where}
use Rattle.bittle_ext.proofs.combinations.combine_words.Given as goal

abbrev pub invariant-loop-k : goal.invariant-loop-k
invariant-loop-k g l =
    let w = g.A.Shape.width in
    let s = set_in g.A.Shape g.E.Endian l.initial.set in
    let p = (combined g.O.Operation.decide s (set_in g.B.Shape g.F.Endian l.other)).has in
    record {
      replaced : set_in g.A.Shape g.E.Endian l.set ≡ replaced_where (λ i. nat_lt i (l.k * w)) p s;
      told : TellsBelow p s (l.k * w) l.changed;
      stays : g.A.Shape.loan l.initial.set ≡ g.A.Shape.loan l.set;
    }
