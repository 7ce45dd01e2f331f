use Rattle.std.proofs.Common.{refl, ◌∙◌}
use Rattle.bittle_bits.proofs.Spans.{change-same}
use Rattle.bittle_bits.proofs.bits_mut.BitsMut.clear_range_in.Goals as goal

pub returns-clause-set : goal.returns-clause-set
returns-clause-set g c = c.assign_range_by_operation.ensures.set ∙ change-same _ _ refl refl _ _ _
