use Rattle.bit_roles.specs.Roles.{may_inherit}
use Rattle.bit_roles.proofs.RoleLaws.{others_allow_same}
use Rattle.std.proofs.Common.{Some}
use Rattle.bit_roles.proofs.role_laws.inheriting_changes_only_descendants.Goals as goal

pub returns : goal.returns
returns c = λ r role parent. others_allow_same r (may_inherit r role parent) role (Some parent)
