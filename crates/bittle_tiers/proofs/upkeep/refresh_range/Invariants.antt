use Rattle.bittle_tiers.specs.Tiers.{SummarizesOutside}
use Rattle.bittle_tiers.proofs.upkeep.refresh_range.Given as goal

abbrev pub invariant-loop-k : goal.invariant-loop-k
invariant-loop-k g l = SummarizesOutside g.K.Kind.ONES g.B.Shape.width (g.B.Shape.big l.map)
    (g.S.Shape.big l.summary) l.k l.to
