use Rattle.std.proofs.Common.{ap, ◌∙◌}
use Rattle.bittle_bits.specs.SetOperations.{difference_of}
use Rattle.bittle_bits.specs.Values.{set_mirrored}
use Rattle.bittle.proofs.CallerSets.{full_without}
use Rattle.bittle.proofs.set.operators.complement.complement_of.Goals as goal

pub returns : goal.returns
returns g c = λ mirrored.
    let s = set_mirrored g.T.Shape mirrored c.args.bits in
    ap (set_mirrored g.T.Shape mirrored) c.new_in.ensures
    ∙ c.difference.ensures.in_each_order mirrored
    ∙ ap (λ full. difference_of full s) (c.ones.ensures.in_each_order mirrored)
    ∙ full_without g.T.Shape.type_capacity s (g.met.T.FixedCapacity.one_capacity c.args.bits)
