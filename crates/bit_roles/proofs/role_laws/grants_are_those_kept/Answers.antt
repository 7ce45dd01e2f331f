use Rattle.bit_roles.proofs.Lists.{kept_iff}
use Rattle.bit_roles.proofs.role_laws.grants_are_those_kept.Goals as goal

pub returns : goal.returns
returns c = kept_iff
