use Rattle.std.proofs.Common.{arith}
use Rattle.bittle_ext.proofs.Windows.{at_most_128}
use Rattle.bittle_ext.proofs.rotations.all_bits.Goals as goal

pub returns-clause-value : goal.returns-clause-value
returns-clause-value g c =
    omega (arith, c.to_bits.ensures.pattern, c.not.ensures.pattern, c.zero.ensures)

pub returns-clause-width : goal.returns-clause-width
returns-clause-width g c =
    at_most_128 g.W.Word.width _ (returns-clause-value g c) c.to_bits.type_inv
