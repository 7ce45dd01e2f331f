use Rattle.bittle_tiers.specs.Tiers.{can_summarize}
use Rattle.bittle_tiers.proofs.Summaries.{can_one, tells_one}
use Rattle.bittle_tiers.proofs.tiered.TieredClone.clone.Goals as goal

pub returns : goal.returns
returns g c =
    let s = c.args.self.now in
    let fits = can_one (can_summarize g.B.Shape.indexable g.S.Shape.indexable
    g.B.Shape.type_capacity
    g.S.Shape.type_capacity g.B.Shape.width) _ s.fits in
    let tells = tells_one g.K.Kind.ONES g.B.Shape.width (g.B.Shape.big s.map)
    (g.S.Shape.big s.summary) _ s.tells in
    record {
      cases = λ i. record {
        map = s.map;
        summary = s.summary;
        kind = s.kind;
        fits = fits i;
        tells = tells i;
      };
    }
