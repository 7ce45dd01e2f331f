use Rattle.std.proofs.Common.{ap}
use Rattle.bittle_bits.specs.Orders.{read_in}
use Rattle.bittle_bits.proofs.RowSets.{row_set-replicate}
use Rattle.bittle_bits.proofs.Sizes.{size_emptied}
use Rattle.bittle_bits.proofs.array.ArrayBitsOwned.zeros.Goals as goal

pub returns-clause-value : goal.returns-clause-value
returns-clause-value g c = row_set-replicate _ _ g.T.Shape.big _ c.zeros.ensures.value

pub returns-clause-in_each_order : goal.returns-clause-in_each_order
returns-clause-in_each_order g c m = ap (read_in m _) (returns-clause-value g c)

pub returns-clause-in_own_order : goal.returns-clause-in_own_order
returns-clause-in_own_order g c = returns-clause-value g c

pub returns-clause-count : goal.returns-clause-count
returns-clause-count g c = size_emptied _ _ (returns-clause-value g c)
