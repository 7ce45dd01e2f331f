use Rattle.std.proofs.Common.{◌-◌}
use Rattle.bittle.specs.Values.{word_in}
use Rattle.bittle_ext.proofs.ShortRuns.{HasBegun}
use Rattle.bittle_ext.proofs.short_runs.first_in_word.Given as goal

abbrev pub invariant-loop-known : goal.invariant-loop-known
invariant-loop-known g l =
    HasBegun g.W.Word.width l.length l.known (word_in g.W.Word g.E.Endian l.fn.word)
    (word_in g.W.Word g.E.Endian l.begin)

abbrev pub decreases-loop-known : goal.decreases-loop-known
decreases-loop-known g l = l.length - l.known
