use Rattle.std.specs.Cmp.Lexicographic.{nat_list_cmp_total}
use Rattle.bittle.specs.PlainSet.{ascending}
use Rattle.bittle_laws.proofs.comparison.order_reverses.Goals as goal

pub returns : goal.returns
returns c = λ s t. nat_list_cmp_total.antisymm (ascending t) (ascending s)
