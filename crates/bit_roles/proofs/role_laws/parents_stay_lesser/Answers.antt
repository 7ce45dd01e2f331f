use Rattle.bit_roles.proofs.RoleLaws.{stay_lesser}
use Rattle.bit_roles.proofs.role_laws.parents_stay_lesser.Goals as goal

pub returns : goal.returns
returns c = stay_lesser
