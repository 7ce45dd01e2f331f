use Rattle.bit_roles.proofs.RoleLaws.{bare_allow_nothing}
use Rattle.bit_roles.proofs.role_laws.nothing_is_allowed_at_first.Goals as goal

pub returns : goal.returns
returns c = bare_allow_nothing
