use Rattle.std.proofs.Common.{ap, arith}
use Rattle.bittle.specs.PlainSet.{size}
use Rattle.bittle.proofs.CallerSets.{size_empty}
use Rattle.bittle_ext.proofs.bits_owned_ext.BitsOwnedExt.from_indexes.Goals as goal

pub returns-clause-at_most : goal.returns-clause-at_most
returns-clause-at_most g c = omega (
  arith,
  c.insert_all.ensures.at_most,
  ap size (c.zeros-set.ensures.in_each_order g.Self.Order.Endian.mirrored),
  size_empty g.Self.Shape.type_capacity,
)
