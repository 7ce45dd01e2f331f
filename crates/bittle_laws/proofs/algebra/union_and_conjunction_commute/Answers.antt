use Rattle.std.proofs.Common.{◌||◌, ◌&&◌}
use Rattle.std.proofs.Math.Bool.{or_comm, and_comm}
use Rattle.bittle_laws.proofs.AlgebraLaws.{commutes}
use Rattle.bittle_laws.proofs.algebra.union_and_conjunction_commute.Goals as goal

pub returns : goal.returns
returns c = record {
  union = commutes ◌||◌ or_comm;
  conjunction = commutes ◌&&◌ and_comm;
}
