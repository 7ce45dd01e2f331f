use Rattle.std.proofs.Common.{false, refl}
use Rattle.bittle_ext.proofs.ZeroCounts.{not_in_one}
use Rattle.bittle_uses.proofs.Subsets.{tells}
use Rattle.bittle_uses.proofs.relations.have_same_members.Goals as goal

pub returns-else-eq : goal.returns-else-eq
returns-else-eq g c = tells _ _ g.met.B.FixedCapacity.one_capacity g.met.B.ReadWords.none_past _ _
    not_in_one refl _ _ (c.symmetric_difference.ensures.in_each_order false) c.all_zeros.ensures.value
