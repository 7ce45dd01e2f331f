use Rattle.std.proofs.Common.{◌-◌}
use Rattle.bittle.specs.Values.{kind_in}
use Rattle.bittle_ext.specs.Runs.{cut_off}
use Rattle.bittle_ext.proofs.RunFacts.{IsSearched}
use Rattle.bittle_ext.proofs.runs.next_run_before.Given as goal

abbrev pub invariant-loop-start : goal.invariant-loop-start
invariant-loop-start g l =
    IsSearched (cut_off l.end (kind_in g.B.Shape g.E.Endian g.K.Kind l.bits)) l.length l.from
    l.end l.at

abbrev pub decreases-loop-start : goal.decreases-loop-start
decreases-loop-start g l = l.end - l.at
