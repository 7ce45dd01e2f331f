use Rattle.bit_roles.proofs.RoleLaws.{grant_gives}
use Rattle.bit_roles.proofs.role_laws.grants_give_just_their_permission.Goals as goal

pub returns : goal.returns
returns c = grant_gives
