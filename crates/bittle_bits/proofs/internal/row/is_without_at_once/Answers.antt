use Rattle.bittle_bits.proofs.RowSizes.{whole_without}
use Rattle.bittle_bits.proofs.internal.row.is_without_at_once.Goals as goal

pub returns : goal.returns
returns g c = whole_without g.T.Shape.type_capacity g.T.Shape.big c.args.elements.now
    g.met.T.FixedCapacity.one_capacity g.K.Kind.ONES _ c.part_is_without.ensures.all_without
    c.part_is_without.ensures.one_with
