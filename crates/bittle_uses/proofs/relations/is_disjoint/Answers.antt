use Rattle.std.proofs.Common.{false, refl}
use Rattle.bittle_ext.proofs.ZeroCounts.{not_common}
use Rattle.bittle_uses.proofs.Subsets.{tells}
use Rattle.bittle_uses.proofs.relations.is_disjoint.Goals as goal

pub returns : goal.returns
returns g c = tells _ _ g.met.B.FixedCapacity.one_capacity g.met.B.ReadWords.none_past _ _
    not_common refl _ _
    (c.conjunction.ensures.in_each_order false) c.all_zeros.ensures.value
