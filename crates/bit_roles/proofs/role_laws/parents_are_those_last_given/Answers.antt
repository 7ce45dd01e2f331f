use Rattle.bit_roles.proofs.Lists.{last_given}
use Rattle.bit_roles.proofs.role_laws.parents_are_those_last_given.Goals as goal

pub returns : goal.returns
returns c = last_given
