use Rattle.bit_roles.proofs.RoleLaws.{inherit_changes_only}
use Rattle.bit_roles.proofs.role_laws.inherits_change_only_what_is_inherited.Goals as goal

pub returns : goal.returns
returns c = inherit_changes_only
