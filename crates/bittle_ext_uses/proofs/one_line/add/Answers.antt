use Rattle.std.proofs.Common.{false}
use Rattle.bittle_ext.proofs.CallerMembers.{still_set_after_union}
use Rattle.bittle_ext_uses.proofs.one_line.add.Goals as goal

pub returns : goal.returns
returns c = λ k has. still_set_after_union _ _ _ k (c.union_assign.ensures.union false) has
