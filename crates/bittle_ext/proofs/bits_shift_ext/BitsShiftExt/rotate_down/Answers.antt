use Rattle.std.proofs.Common.{ap, ◌∙◌}
use Rattle.bittle.specs.PlainSet.{contains, size}
use Rattle.bittle_ext.proofs.RotatedSets.{rotated_from}
use Rattle.bittle_ext.proofs.RotatedSizes.{size_rotated_down}
use Rattle.bittle_ext.proofs.bits_shift_ext.BitsShiftExt.rotate_down.Goals as goal

pub returns-clause-moved : goal.returns-clause-moved
returns-clause-moved g c i = ap (λ s. contains s i) c.rotate_down.ensures.set ∙ rotated_from _ _ i

pub returns-clause-count : goal.returns-clause-count
returns-clause-count g c = ap size c.rotate_down.ensures.set ∙ size_rotated_down _ _
