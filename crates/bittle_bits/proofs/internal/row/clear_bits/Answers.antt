use Rattle.std.proofs.Common.{◌≡◌, ap, false, arith}
use Rattle.std.proofs.lemmas.Grind.{common_steps}
use Rattle.bittle_bits.proofs.RowSets.{elements_without_members}
use Rattle.bittle_bits.proofs.internal.row.clear_bits.Goals as goal

pub loop-element-preserved : goal.loop-element-preserved
loop-element-preserved g c =
    let e : (g.T.Shape.big c.clear_bits.new.self).has
    ≡ (λ _. false) = ap (λ s. s.has) c.clear_bits.ensures.set in
    λ k d h. grind (arith, common_steps, e, c.loop-element.invariant k d)

pub returns : goal.returns
returns g c = elements_without_members _ _ _ g.T.Shape.big c.loop-element.elements
    c.args.elements.now (omega arith) (λ k d h. c.loop-element.invariant k d (omega arith))
