use Rattle.std.proofs.Common.{inl}
use Rattle.bittle_ext.proofs.CallerSpans.{has_outside_clear_span}
use Rattle.bittle_ext_uses.proofs.known_members.cancel_from.Goals as goal

pub returns : goal.returns
returns c = λ k before. has_outside_clear_span _ _ _ _ k c.clear_span.ensures.set (inl before)
