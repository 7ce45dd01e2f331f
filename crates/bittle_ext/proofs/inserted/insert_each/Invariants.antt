use Rattle.std.proofs.Common.{◌≡◌}
use Rattle.std.specs.List.{fold}
use Rattle.bittle.specs.PlainSet.{with_index}
use Rattle.bittle.specs.Values.{set_in}
use Rattle.bittle_ext.proofs.inserted.insert_each.Given as goal

abbrev pub invariant-loop-index : goal.invariant-loop-index
invariant-loop-index g l =
    record {
      inserted : set_in g.B.Shape g.E.Endian l.set
          ≡ fold with_index (set_in g.B.Shape g.E.Endian l.initial.set) l.yielded;
      stays : g.B.Shape.loan l.initial.set ≡ g.B.Shape.loan l.set;
    }
