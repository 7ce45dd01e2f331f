use Rattle.std.proofs.Common.{◌+◌, ap, ◌∙◌, arith}
use Rattle.bittle.specs.PlainSet.{contains, size}
use Rattle.bittle.specs.Values.{set_in}
use Rattle.bittle_ext.proofs.RotatedSets.{shifted_to, emptied_below}
use Rattle.bittle_ext.proofs.KeptSizes.{size_shifted_up}
use Rattle.bittle_ext.proofs.bits_owned_ext.BitsOwnedExt.shifted_up.Goals as goal

pub returns-clause-moved : goal.returns-clause-moved
returns-clause-moved g c i h =
    ap (λ s. contains s (i + c.args.by)) c.shift_up.ensures.set
    ∙ shifted_to _ _ i (omega (arith, h, g.met.Self.FixedCapacity.one_capacity c.args.self))

pub returns-clause-emptied : goal.returns-clause-emptied
returns-clause-emptied g c i h l =
    ap (λ s. contains s i) c.shift_up.ensures.set
    ∙ emptied_below _ _ i (omega (arith, h, g.met.Self.FixedCapacity.one_capacity c.args.self)) l

pub returns-clause-at_most : goal.returns-clause-at_most
returns-clause-at_most g c = omega (
  arith,
  ap size c.shift_up.ensures.set,
  size_shifted_up (set_in g.Self.Shape g.Self.Order.Endian c.args.self) c.args.by,
)
