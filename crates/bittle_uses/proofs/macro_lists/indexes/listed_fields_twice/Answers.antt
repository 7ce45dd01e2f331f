use Rattle.bittle_uses.proofs.MacroLists.{then_index}
use Rattle.bittle_uses.proofs.macro_lists.indexes.listed_fields_twice.Goals as goal

pub returns : goal.returns
returns g c =
    let own = c.set-zeros.ensures.in_each_order in
    let little = c.set_le-zeros.ensures.in_each_order in search (then_index, own, little)
