use Rattle.std.proofs.Common.{◌||◌, ◌&&◌}
use Rattle.std.proofs.Math.Bool.{or_self, and_self}
use Rattle.bittle_laws.proofs.AlgebraLaws.{is_idempotent}
use Rattle.bittle_laws.proofs.algebra.union_and_conjunction_are_idempotent.Goals as goal

pub returns : goal.returns
returns c = record {
  union = is_idempotent ◌||◌ or_self;
  conjunction = is_idempotent ◌&&◌ and_self;
}
