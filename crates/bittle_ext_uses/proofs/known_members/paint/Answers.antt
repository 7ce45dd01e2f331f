use Rattle.bittle_lemmas.proofs.SetSpans.{in_span_or_before}
use Rattle.bittle_ext_uses.proofs.known_members.paint.Goals as goal

pub returns : goal.returns
returns c = λ k has. in_span_or_before _ _ _ _ k c.set_range.ensures.set has
