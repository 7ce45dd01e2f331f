use Rattle.std.proofs.Common.{ap}
use Rattle.bittle_bits.specs.Orders.{read_in}
use Rattle.bittle_bits.proofs.BitSets.{no_digits}
use Rattle.bittle_bits.proofs.one_word.zeros.Goals as goal

pub returns-clause-value : goal.returns-clause-value
returns-clause-value g c = no_digits _ _ c.zero.ensures

pub returns-clause-in_each_order : goal.returns-clause-in_each_order
returns-clause-in_each_order g c m = ap (read_in m _) (returns-clause-value g c)
