use Rattle.bit_roles.proofs.RoleLaws.{same_counts_run}
use Rattle.bit_roles.proofs.role_laws.numbers_stay.Goals as goal

pub returns : goal.returns
returns c = same_counts_run
