use Rattle.std.specs.Cmp.Lexicographic.{texts_ties}
use Rattle.bittle.specs.PlainSet.{ascending}
use Rattle.bittle_laws.proofs.comparison.order_agrees_with_equality.Goals as goal

pub returns : goal.returns
returns c = λ s t. texts_ties (ascending s) (ascending t)
