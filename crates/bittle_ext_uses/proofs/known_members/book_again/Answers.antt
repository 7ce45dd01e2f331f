use Rattle.std.proofs.Common.{arith, refl}
use Rattle.bittle_ext.proofs.CallerSpans.{has_after_set_span, has_outside_set_span}
use Rattle.bittle_lemmas.proofs.EqualSets.{same_if_each}
use Rattle.bittle_ext_uses.proofs.known_members.book_again.Goals as goal

pub returns : goal.returns
returns c = λ all. same_if_each _ _ refl λ k. grind (
  arith,
  has_after_set_span _ _ _ _ k c.set_range.ensures.set,
  has_outside_set_span _ _ _ _ k c.set_range.ensures.set,
  all k,
)
