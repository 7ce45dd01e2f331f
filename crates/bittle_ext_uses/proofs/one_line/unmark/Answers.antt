use Rattle.std.proofs.Common.{rules}
use Rattle.bittle_ext.proofs.CallerMembers.{contains_other_after_clear}
use Rattle.bittle_ext_uses.proofs.one_line.unmark.Goals as goal

pub returns : goal.returns
returns c = λ k below apart. search (contains_other_after_clear, rules)
