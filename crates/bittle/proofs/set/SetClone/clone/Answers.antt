use Rattle.std.proofs.Common.{ap}
use Rattle.bittle.proofs.Fitting.{fits_one}
use Rattle.bittle.proofs.set.SetClone.clone.Goals as goal

pub returns : goal.returns
returns g c =
    let s = c.args.self.now in
    record {
      cases = ap (λ q. record { bits = s.bits; order = s.order; fits = q })
          (fits_one g.T.Shape.indexable (g.T.Shape.big s.bits).capacity _ s.fits);
    }
