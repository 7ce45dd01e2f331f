use Rattle.bit_roles.proofs.RoleLaws.{inherit_replaces}
use Rattle.bit_roles.proofs.role_laws.inherits_replace_what_was_inherited.Goals as goal

pub returns : goal.returns
returns c = inherit_replaces
