use Rattle.bit_roles.proofs.Taken.{revoke_takes}
use Rattle.bit_roles.proofs.role_laws.revokes_take_just_their_permission.Goals as goal

pub returns : goal.returns
returns c = revoke_takes
