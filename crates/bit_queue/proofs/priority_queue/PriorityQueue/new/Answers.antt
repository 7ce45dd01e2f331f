use Rattle.std.proofs.Common.{ap, ◌∙◌}
use Rattle.bittle.specs.PlainSet.{size}
use Rattle.bittle.specs.Values.{set_in}
use Rattle.bittle.proofs.CallerSets.{size_empty}
use Rattle.bit_queue.proofs.priority_queue.PriorityQueue.new.Goals as goal

pub returns-clause-count : goal.returns-clause-count
returns-clause-count g c =
    ap size (ap (set_in g.B.Shape g.B.Order.Endian) c.with_ready.ensures
    ∙ c.zeros.ensures.in_own_order) ∙ size_empty _
