use Rattle.std.proofs.Common.{◌+◌, false, ap, ◌∙◌}
use Rattle.bittle.specs.PlainSet.{size}
use Rattle.bittle.specs.SetOperations.{combination_of, first_alone}
use Rattle.bittle.specs.Values.{set_in, set_mirrored}
use Rattle.bittle.proofs.CallerSets.{full_without}
use Rattle.bittle_bits.proofs.Sizes.{size-complement}
use Rattle.bittle_ext.proofs.Complements.{complement_apart}
use Rattle.bittle_ext.proofs.bits_owned_ext.BitsOwnedExt.complement.Goals as goal

pub returns-clause-in_each_order : goal.returns-clause-in_each_order
returns-clause-in_each_order g c m =
    let s = set_mirrored g.Self.Shape m c.args.self in
    c.difference.ensures.in_each_order m
    ∙ ap (λ u. combination_of first_alone u s) (c.ones.ensures.in_each_order m)
    ∙ full_without _ s (g.met.Self.FixedCapacity.one_capacity c.args.self)

pub returns-clause-value : goal.returns-clause-value
returns-clause-value g c = returns-clause-in_each_order g c false

pub returns-clause-in_own_order : goal.returns-clause-in_own_order
returns-clause-in_own_order g c = returns-clause-in_each_order g c _

pub returns-clause-count : goal.returns-clause-count
returns-clause-count g c =
    let old = g.Self.Shape.big c.args.self in
    ap (λ s. size s + size old) (returns-clause-value g c) ∙ size-complement old

pub returns-clause-apart : goal.returns-clause-apart
returns-clause-apart g c k has =
    ap (λ s. s.has k) (returns-clause-in_own_order g c)
    ∙ complement_apart (set_in g.Self.Shape g.Self.Order.Endian c.args.self) k has
