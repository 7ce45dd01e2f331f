use Rattle.std.proofs.Common.{◌≡◌}
use Rattle.std.specs.Iterator.Adapters.{rev_source}
use Rattle.std.specs.Prelude.{slice_get, unwrap_or}
use Rattle.bittle_uses.proofs.shared_slices.least_free_of.Given as goal

abbrev pub invariant-loop-index : goal.invariant-loop-index
invariant-loop-index g l = unwrap_or (slice_get (rev_source l.index-iterator).remaining 0) l.last
    ≡ unwrap_or (slice_get (rev_source l.initial.index-iterator).remaining 0) 0
