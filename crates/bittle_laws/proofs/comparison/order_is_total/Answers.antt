use Rattle.std.specs.Cmp.{on_total}
use Rattle.std.specs.Cmp.Lexicographic.{nat_list_cmp_total}
use Rattle.bittle.specs.PlainSet.{ascending}
use Rattle.bittle_laws.proofs.comparison.order_is_total.Goals as goal

pub returns : goal.returns
returns c = on_total ascending nat_list_cmp_total
