use Rattle.std.proofs.Common.{rules}
use Rattle.bittle_ext.proofs.CallerShifts.{contains_after_shift_up}
use Rattle.bittle_ext_uses.proofs.one_line.move_up.Goals as goal

pub returns : goal.returns
returns c = λ k low below. search (contains_after_shift_up, rules)
