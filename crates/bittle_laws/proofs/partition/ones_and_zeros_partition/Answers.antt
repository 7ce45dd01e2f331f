use Rattle.bittle_laws.proofs.CountLaws.{splits}
use Rattle.bittle_laws.proofs.partition.ones_and_zeros_partition.Goals as goal

pub returns : goal.returns
returns c = splits
