use Rattle.std.proofs.Common.{ap, ◌∙◌}
use Rattle.bittle_bits.specs.PlainSet.{size}
use Rattle.bittle_bits.proofs.Counts.{count-never}
use Rattle.bittle.proofs.set.from_word.SetDefault.default.Goals as goal

pub returns : goal.returns
returns g c =
    let none = c.zeros.ensures in
    (none.value, none.in_each_order, ap size none.value ∙ count-never _)
