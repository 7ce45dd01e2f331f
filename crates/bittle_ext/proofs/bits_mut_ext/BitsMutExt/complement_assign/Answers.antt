use Rattle.std.proofs.Common.{◌+◌, ◌∙◌, ap, sym}
use Rattle.bittle.specs.Orders.{read_in}
use Rattle.bittle.specs.PlainSet.{size, with_span_toggled}
use Rattle.bittle_bits.proofs.PlainSets.{complement-members}
use Rattle.bittle_bits.proofs.Sizes.{size-complement}
use Rattle.bittle_ext.proofs.Complements.{all_toggled}
use Rattle.bittle_ext.proofs.bits_mut_ext.BitsMutExt.complement_assign.Goals as goal

pub returns-clause-set : goal.returns-clause-set
returns-clause-set g c =
    let old = c.args.self.now in
    ◌∙◌ {b = with_span_toggled (g.Self.Shape.big old) 0 c.bits_capacity-capacity.result}
    c.toggle_range_in.ensures.set
    (all_toggled (g.Self.Shape.big old) _ (c.bits_capacity-capacity.ensures.value c.requires)
    (g.met.Self.ReadWords.none_past old))

pub returns-clause-in_each_order : goal.returns-clause-in_each_order
returns-clause-in_each_order g c m =
    let old = c.args.self.now in
    ap (read_in m g.Self.Shape.width) (returns-clause-set g c)
    ∙ sym (complement-members m _ _ g.met.Self.ReadWords.width_positive
    (g.met.Self.ReadWords.whole_words old))

pub returns-clause-count : goal.returns-clause-count
returns-clause-count g c =
    let old = g.Self.Shape.big c.args.self.now in
    ap (λ s. size s + size old) (returns-clause-set g c) ∙ size-complement old

pub returns-clause-in_own_order : goal.returns-clause-in_own_order
returns-clause-in_own_order g c = returns-clause-in_each_order g c _
