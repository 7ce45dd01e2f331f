use Rattle.bittle.proofs.MixedRuns.{mirrored_from}
use Rattle.bittle.proofs.replay.make_mixed_call.Goals as goal

pub returns-in-Big-default-clause-set : goal.returns-in-Big-default-clause-set
returns-in-Big-default-clause-set g c = rw c.in-Big-default.is-0 c.make_call.ensures.set

pub returns-in-Little-default-clause-set : goal.returns-in-Little-default-clause-set
returns-in-Little-default-clause-set g c =
    rw c.in-Little-default.is-0 (mirrored_from g.B.Shape.width _ _ g.met.B.ReadWords.width_positive
    c.make_call-in-Little-default.ensures.set)
