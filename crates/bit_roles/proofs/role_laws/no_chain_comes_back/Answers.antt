use Rattle.bit_roles.proofs.RoleLaws.{no_way_back}
use Rattle.bit_roles.proofs.role_laws.no_chain_comes_back.Goals as goal

pub returns : goal.returns
returns c = no_way_back
