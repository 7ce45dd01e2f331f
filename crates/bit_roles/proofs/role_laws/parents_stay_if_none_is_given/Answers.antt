use Rattle.bit_roles.proofs.Lists.{parent_kept}
use Rattle.bit_roles.proofs.role_laws.parents_stay_if_none_is_given.Goals as goal

pub returns : goal.returns
returns c = parent_kept
