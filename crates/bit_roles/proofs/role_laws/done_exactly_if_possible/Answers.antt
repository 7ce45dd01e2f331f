use Rattle.bit_roles.proofs.RoleLaws.{done_exactly}
use Rattle.bit_roles.proofs.role_laws.done_exactly_if_possible.Goals as goal

pub returns : goal.returns
returns c = done_exactly
