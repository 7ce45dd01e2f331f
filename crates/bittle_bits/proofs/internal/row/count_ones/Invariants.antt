use Rattle.std.proofs.Common.{◌≡◌, take}
use Rattle.std.specs.List.{sum_by}
use Rattle.bittle_bits.specs.PlainSet.{size}
use Rattle.bittle_bits.proofs.internal.row.count_ones.Given as goal

abbrev pub invariant-loop-element : goal.invariant-loop-element
invariant-loop-element g l = l.total ≡ sum_by (λ x. size (g.T.Shape.big x))
    (take l.element-index l.elements)
