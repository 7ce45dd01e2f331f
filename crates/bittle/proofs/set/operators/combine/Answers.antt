use Rattle.std.proofs.Common.{false}
use Rattle.bittle.proofs.Fitting.{still_fits}
use Rattle.bittle.proofs.set.operators.combine.Goals as goal

pub invariant_of-set : goal.invariant_of-set
invariant_of-set g c = record {
  fits = still_fits _ g.T.Shape.width _ _
      (c.assign_by_operation.ensures.set false) c.args.set.now.fits;
}
