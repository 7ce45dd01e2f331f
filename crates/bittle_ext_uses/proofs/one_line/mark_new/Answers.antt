use Rattle.std.proofs.Common.{rules}
use Rattle.bittle_ext.proofs.CallerMembers.{size_after_set_new}
use Rattle.bittle_ext_uses.proofs.one_line.mark_new.Goals as goal

pub returns : goal.returns
returns c = search (size_after_set_new, rules)
