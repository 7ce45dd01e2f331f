use Rattle.bit_roles.proofs.Taken.{clear_takes}
use Rattle.bit_roles.proofs.role_laws.clearing_a_parent_takes_what_was_inherited.Goals as goal

pub returns : goal.returns
returns c = clear_takes
