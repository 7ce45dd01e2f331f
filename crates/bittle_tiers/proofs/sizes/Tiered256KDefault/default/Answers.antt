use Rattle.std.proofs.Common.{true, ap, ◌∙◌}
use Rattle.bittle.specs.PlainSet.{size}
use Rattle.bittle_bits.proofs.Counts.{count-never}
use Rattle.bittle_tiers.proofs.sizes.Tiered256KDefault.default.Goals as goal

pub returns : goal.returns
returns g c =
    let none = c.zeros.ensures in
    (none.value, none.in_each_order true, ap size none.value ∙ count-never _)
