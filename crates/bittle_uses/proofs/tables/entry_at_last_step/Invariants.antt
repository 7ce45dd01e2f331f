use Rattle.bittle_uses.proofs.Lasts.{KeepsLastEntry}
use Rattle.bittle_uses.proofs.tables.entry_at_last_step.Given as goal

abbrev pub invariant-loop-index : goal.invariant-loop-index
invariant-loop-index l = KeepsLastEntry l.row l.last l.walk.remaining l.initial.walk.remaining
