use Rattle.std.proofs.Common.{◌-◌, ◌*◌, ◌≤◌}
use Rattle.bittle.specs.Values.{kind_in, word_in}
use Rattle.bittle_ext.specs.Runs.{cut_off}
use Rattle.bittle_ext.proofs.ShortRuns.{IsReading}
use Rattle.bittle_ext.proofs.short_runs.next_short_run.Given as goal

abbrev pub invariant-loop-open : goal.invariant-loop-open
invariant-loop-open g l =
    (l.open ≤ l.k * g.B.Shape.width)
    × IsReading g.B.Shape.width l.words l.from l.length l.k (l.k * g.B.Shape.width - l.open)
    (cut_off (l.words * g.B.Shape.width) (kind_in g.B.Shape g.E.Endian g.K.Kind l.bits))
    (word_in g.B.LeafWord.Word g.E.Endian l.word)

abbrev pub decreases-loop-open : goal.decreases-loop-open
decreases-loop-open g l = l.words - l.k
