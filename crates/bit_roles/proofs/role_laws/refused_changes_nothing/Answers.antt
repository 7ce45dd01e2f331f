use Rattle.bit_roles.proofs.RoleLaws.{refused_keeps}
use Rattle.bit_roles.proofs.role_laws.refused_changes_nothing.Goals as goal

pub returns : goal.returns
returns c = refused_keeps
