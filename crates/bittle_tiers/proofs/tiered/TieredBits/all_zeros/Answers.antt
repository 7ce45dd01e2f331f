use Rattle.std.proofs.Common.{◌≡◌, ◌==◌, true, sym, ◌∙◌}
use Rattle.bittle_bits.proofs.Sizes.{size_in_each_order}
use Rattle.bittle_tiers.proofs.tiered.TieredBits.all_zeros.Goals as goal

pub returns-then-ONES-clause-in_each_order : goal.returns-then-ONES-clause-in_each_order
returns-then-ONES-clause-in_each_order g c =
    let ones : g.K.Kind.ONES ≡ true = sym c.ONES.ensures ∙ c.if-ONES.true in
    size_in_each_order g.B.Shape.width (g.B.Shape.big c.args.self.now.map) (λ n. n == 0)
    c.all_words_have_none.result g.met.B.ReadWords.width_positive (g.met.B.ReadWords.whole_words _)
    (rw ones at c.all_words_have_none.ensures)

pub returns-then-ONES-clause-in_own_order : goal.returns-then-ONES-clause-in_own_order
returns-then-ONES-clause-in_own_order g c = returns-then-ONES-clause-in_each_order g c _
