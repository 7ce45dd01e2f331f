use Rattle.bit_roles.proofs.RoleLaws.{inherit_gives}
use Rattle.bit_roles.proofs.role_laws.inherits_what_the_parent_allowed.Goals as goal

pub returns : goal.returns
returns c = inherit_gives
