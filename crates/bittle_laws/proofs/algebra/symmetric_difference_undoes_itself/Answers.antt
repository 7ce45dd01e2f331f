use Rattle.bittle.specs.SetOperations.{just_one}
use Rattle.bittle_laws.proofs.AlgebraLaws.{undoes, just_one-undoes}
use Rattle.bittle_laws.proofs.algebra.symmetric_difference_undoes_itself.Goals as goal

pub returns : goal.returns
returns c = undoes just_one just_one-undoes
