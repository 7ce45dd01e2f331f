use Rattle.std.specs.Cmp.Lexicographic.{nat_list_eq_equiv}
use Rattle.bittle.specs.PlainSet.{ascending}
use Rattle.bittle_laws.proofs.comparison.equality_is_symmetric.Goals as goal

pub returns : goal.returns
returns c = λ s t. nat_list_eq_equiv.symm (ascending t) (ascending s)
