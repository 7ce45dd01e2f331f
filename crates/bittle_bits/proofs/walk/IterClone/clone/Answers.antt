use Rattle.bittle_bits.proofs.walk.IterClone.clone.Goals as goal

pub returns : goal.returns
returns g c = record {
  cases = rw (← c.self.view_is, c.duplicate.ensures)
      (c.duplicate-2.ensures.resumes _ _ _ c.self.invariant.1);
}
