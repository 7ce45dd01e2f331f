use Rattle.std.proofs.Common.{refl}
use Rattle.bittle_ext_uses.proofs.one_line.of_three_roles.Goals as goal

pub returns : goal.returns
returns c = rw (c.union-2.ensures.in_own_order, c.union.ensures.in_own_order) refl
