use Rattle.std.proofs.Common.{◌||◌, ◌&&◌}
use Rattle.std.proofs.Math.Bool.{or_assoc, and_assoc}
use Rattle.bittle_laws.proofs.AlgebraLaws.{associates}
use Rattle.bittle_laws.proofs.algebra.union_and_conjunction_associate.Goals as goal

pub returns : goal.returns
returns c = record {
  union = associates ◌||◌ or_assoc;
  conjunction = associates ◌&&◌ and_assoc;
}
