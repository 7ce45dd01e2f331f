use Rattle.std.proofs.Common.{◌≡◌, ◌==◌, false, sym, ◌∙◌}
use Rattle.bittle_bits.proofs.Sizes.{size_in_each_order}
use Rattle.bittle_tiers.proofs.Summaries.{full_where_none_lacks}
use Rattle.bittle_tiers.proofs.tiered.TieredBits.all_ones.Goals as goal

pub returns-else-ONES-clause-value : goal.returns-else-ONES-clause-value
returns-else-ONES-clause-value g c =
    let zeros : g.K.Kind.ONES ≡ false = sym c.ONES.ensures ∙ c.if-ONES.false in
    (rw zeros at c.all_words_have_none.ensures)
    ∙ full_where_none_lacks (g.B.Shape.big c.args.self.now.map)

pub returns-else-ONES-clause-in_each_order : goal.returns-else-ONES-clause-in_each_order
returns-else-ONES-clause-in_each_order g c =
    let big = g.B.Shape.big c.args.self.now.map in
    size_in_each_order g.B.Shape.width big (λ n. n == big.capacity) c.all_words_have_none.result
    g.met.B.ReadWords.width_positive (g.met.B.ReadWords.whole_words _)
    (returns-else-ONES-clause-value g c)

pub returns-else-ONES-clause-in_own_order : goal.returns-else-ONES-clause-in_own_order
returns-else-ONES-clause-in_own_order g c = returns-else-ONES-clause-in_each_order g c _
