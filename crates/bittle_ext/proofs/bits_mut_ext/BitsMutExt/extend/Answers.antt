use Rattle.std.proofs.Common.{ap, arith}
use Rattle.bittle.specs.PlainSet.{size}
use Rattle.bittle.specs.Values.{set_in}
use Rattle.bittle_ext.proofs.KeptSizes.{size_all_set}
use Rattle.bittle_ext.proofs.bits_mut_ext.BitsMutExt.extend.Goals as goal

pub returns-clause-set : goal.returns-clause-set
returns-clause-set g c =
    let set = c.insert_each.ensures.set in
    (c.into_iter.result, c.into_iter.ensures.into_iter_gives, set.0, set.1, set.2)

pub returns-clause-runs : goal.returns-clause-runs
returns-clause-runs g c =
    (c.into_iter.result, c.into_iter.ensures.into_iter_gives, c.insert_each.ensures.runs)

pub returns-clause-at_least : goal.returns-clause-at_least
returns-clause-at_least g c =
    let set = c.insert_each.ensures.set in
    omega (
      arith,
      ap size set.2,
      size_all_set set.0 (set_in g.Self.Shape g.Self.Order.Endian c.args.self.now),
    )
