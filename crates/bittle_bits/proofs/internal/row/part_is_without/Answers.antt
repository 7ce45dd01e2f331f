use Rattle.std.proofs.Common.{arith}
use Rattle.bittle_bits.proofs.RowSizes.{part_with, part_without}
use Rattle.bittle_bits.proofs.internal.row.part_is_without.Goals as goal

pub loop-at-preserved : goal.loop-at-preserved
loop-at-preserved g c =
    let old = c.loop-at.invariant in record {
      all_without = part_without g.T.Shape.type_capacity g.T.Shape.big c.args.elements.now
          g.met.T.FixedCapacity.one_capacity g.K.Kind.ONES c.loop-at.at c.index-elements-at.result
          c.index-elements-at.is (omega arith) _ c.has_none-without.ensures c.args.from _
          old.all_without;
      one_with = part_with g.T.Shape.type_capacity g.T.Shape.big c.args.elements.now
          g.met.T.FixedCapacity.one_capacity g.K.Kind.ONES c.loop-at.at c.index-elements-at.result
          c.index-elements-at.is (omega arith) _ c.has_none-without.ensures c.args.from _
          old.one_with;
    }
