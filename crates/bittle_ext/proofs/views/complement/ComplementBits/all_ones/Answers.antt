use Rattle.std.proofs.Common.{◌∙◌, ◌==◌}
use Rattle.bittle.specs.PlainSet.{complement}
use Rattle.bittle_bits.proofs.Sizes.{size_in_each_order}
use Rattle.bittle_ext.proofs.Complements.{empty_or_full}
use Rattle.bittle_ext.proofs.views.complement.ComplementBits.all_ones.Goals as goal

pub returns-clause-value : goal.returns-clause-value
returns-clause-value g c =
    c.all_zeros.ensures.value ∙ empty_or_full (g.B.Shape.big c.args.self.now.set.now)

pub returns-clause-in_each_order : goal.returns-clause-in_each_order
returns-clause-in_each_order g c =
    let v = c.args.self.now.set.now in
    let s = g.B.Shape.big v in
    size_in_each_order _ (complement s) (λ n. n == s.capacity) _ g.met.B.ReadWords.width_positive
    (g.met.B.ReadWords.whole_words v) (returns-clause-value g c)

pub returns-clause-in_own_order : goal.returns-clause-in_own_order
returns-clause-in_own_order g c = returns-clause-in_each_order g c _
