use Rattle.bit_roles.proofs.RoleLaws.{stays_allowed}
use Rattle.bit_roles.proofs.role_laws.granting_takes_nothing_away.Goals as goal

pub returns : goal.returns
returns c = stays_allowed
