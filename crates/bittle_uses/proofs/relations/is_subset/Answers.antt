use Rattle.std.proofs.Common.{false, refl}
use Rattle.bittle_ext.proofs.ZeroCounts.{not_alone}
use Rattle.bittle_uses.proofs.Subsets.{tells}
use Rattle.bittle_uses.proofs.relations.is_subset.Goals as goal

pub returns : goal.returns
returns g c = tells _ _ g.met.B.FixedCapacity.one_capacity g.met.B.ReadWords.none_past _ _
    not_alone refl _ _
    (c.difference.ensures.in_each_order false) c.all_zeros.ensures.value
