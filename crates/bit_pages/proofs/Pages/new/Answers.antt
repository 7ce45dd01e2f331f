use Rattle.std.proofs.Common.{ap, ◌∙◌}
use Rattle.bittle.specs.PlainSet.{size}
use Rattle.bittle.proofs.CallerSets.{size_empty}
use Rattle.bit_pages.proofs.Pages.new.Goals as goal

pub returns-clause-count : goal.returns-clause-count
returns-clause-count g c =
    ap size (c.with_taken.ensures.set ∙ c.zeros.ensures.in_own_order) ∙ size_empty _
