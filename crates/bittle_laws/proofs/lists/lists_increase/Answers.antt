use Rattle.bittle_laws.proofs.ListLaws.{increases}
use Rattle.bittle_laws.proofs.lists.lists_increase.Goals as goal

pub returns : goal.returns
returns c = increases
