use Rattle.std.proofs.Common.{ap, ◌∙◌}
use Rattle.bittle.specs.PlainSet.{complement}
use Rattle.bittle_ext_uses.proofs.found_bits.safe_squares.Goals as goal

pub returns-clause-set : goal.returns-clause-set
returns-clause-set c = c.complement.ensures.value ∙ ap complement c.union.ensures.in_own_order
