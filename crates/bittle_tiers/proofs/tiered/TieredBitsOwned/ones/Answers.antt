use Rattle.std.proofs.Common.{ap, ◌∙◌}
use Rattle.bittle_tiers.specs.Tiers.{uniform_summary}
use Rattle.bittle_tiers.proofs.Summaries.{full_tells, summary_reaches}
use Rattle.bittle_tiers.proofs.tiered.TieredBitsOwned.ones.Goals as goal

pub invariant_of-result : goal.invariant_of-result
invariant_of-result g c =
    let w = g.B.Shape.width in
    let reach = summary_reaches g.B.Shape.indexable g.S.Shape.indexable g.B.Shape.type_capacity
    g.S.Shape.type_capacity w c.requires in
    record {
      fits = c.requires;
      tells = full_tells g.K.Kind.ONES w g.B.Shape.type_capacity g.S.Shape.type_capacity
          (g.B.Shape.big c.ones.result) (g.S.Shape.big c.uniform.result)
          g.met.B.ReadWords.width_positive g.met.B.FixedCapacity.type_whole_words reach
          c.ones.ensures.value (c.uniform.ensures
          ∙ ap (λ b. uniform_summary b g.S.Shape.type_capacity) c.ONES.ensures);
    }

pub returns-clause-in_each_order : goal.returns-clause-in_each_order
returns-clause-in_each_order g c = λ m. c.ones.ensures.in_each_order m
