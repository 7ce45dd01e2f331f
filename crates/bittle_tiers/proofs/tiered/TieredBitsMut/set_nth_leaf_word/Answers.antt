use Rattle.bittle_tiers.proofs.Summaries.{renewed}
use Rattle.bittle_tiers.proofs.tiered.TieredBitsMut.set_nth_leaf_word.Goals as goal

pub invariant_of-self : goal.invariant_of-self
invariant_of-self g c =
    let before = c.args.self.now in
    let replaced = c.set_nth_leaf_word.ensures.set in
    record {
      fits = before.fits;
      tells = renewed g.K.Kind.ONES g.B.Shape.width c.args.k (g.B.Shape.big before.map)
          (g.B.Shape.big c.set_nth_leaf_word.new.self) (g.S.Shape.big before.summary)
          (g.S.Shape.big c.refresh.new.summary) before.tells replaced.others replaced.capacity
          c.refresh.ensures.here c.refresh.ensures.others;
    }
