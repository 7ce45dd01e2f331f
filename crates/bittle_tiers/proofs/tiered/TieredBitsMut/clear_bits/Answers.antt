use Rattle.std.proofs.Common.{not, ap, ◌∙◌}
use Rattle.bittle.specs.PlainSet.{empty_set}
use Rattle.bittle_tiers.specs.Tiers.{uniform_summary}
use Rattle.bittle_tiers.proofs.Summaries.{empty_tells, summary_reaches}
use Rattle.bittle_tiers.proofs.tiered.TieredBitsMut.clear_bits.Goals as goal

pub invariant_of-self : goal.invariant_of-self
invariant_of-self g c =
    let w = g.B.Shape.width in
    let own = g.met.B.FixedCapacity in
    let before = c.args.self.now in
    let reach = summary_reaches g.B.Shape.indexable g.S.Shape.indexable g.B.Shape.type_capacity
    g.S.Shape.type_capacity w before.fits in
    record {
      fits = before.fits;
      tells = empty_tells g.K.Kind.ONES w g.B.Shape.type_capacity g.S.Shape.type_capacity
          (g.B.Shape.big c.clear_bits.new.self) (g.S.Shape.big c.uniform-self.result)
          g.met.B.ReadWords.width_positive own.type_whole_words reach
          (c.clear_bits.ensures.set ∙ ap empty_set (own.one_capacity before.map))
          (c.uniform-self.ensures
          ∙ ap (λ b. uniform_summary (not b) g.S.Shape.type_capacity) c.ONES.ensures);
    }
