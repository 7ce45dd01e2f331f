use Rattle.std.proofs.Common.{◌||◌, ◌&&◌}
use Rattle.std.proofs.Math.Bool.{or-and_distrib_left, and-or_distrib_left}
use Rattle.bittle_laws.proofs.AlgebraLaws.{distributes}
use Rattle.bittle_laws.proofs.algebra.union_and_conjunction_distribute.Goals as goal

pub returns : goal.returns
returns c = record {
  union = distributes ◌||◌ ◌&&◌ or-and_distrib_left;
  conjunction = distributes ◌&&◌ ◌||◌ and-or_distrib_left;
}
