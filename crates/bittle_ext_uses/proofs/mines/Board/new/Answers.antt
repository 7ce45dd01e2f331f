use Rattle.std.proofs.Common.{rules}
use Rattle.bittle_lemmas.proofs.ExcludedSets.{excludes_of_empty}
use Rattle.bittle_ext_uses.proofs.mines.Board.new.Goals as goal

pub invariant_of-result : goal.invariant_of-result
invariant_of-result c = search (excludes_of_empty, rules)
