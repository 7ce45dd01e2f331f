use Rattle.bit_roles.proofs.RoleLaws.{allows_by_parent}
use Rattle.bit_roles.proofs.role_laws.allows_own_and_parents.Goals as goal

pub returns : goal.returns
returns c = allows_by_parent
