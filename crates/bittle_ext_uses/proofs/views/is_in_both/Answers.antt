use Rattle.std.proofs.Common.{ap, ◌∙◌}
use Rattle.bittle.specs.PlainSet.{contains}
use Rattle.bittle_ext_uses.proofs.views.is_in_both.Goals as goal

pub returns : goal.returns
returns c = c.test_bit.ensures.value ∙ ap (λ s. contains s c.args.index) c.and.ensures.set
