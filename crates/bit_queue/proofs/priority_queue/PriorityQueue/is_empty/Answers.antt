use Rattle.std.proofs.Common.{sym}
use Rattle.bittle.specs.Values.{set_in}
use Rattle.bit_queue.proofs.Urgency.{none_ready}
use Rattle.bit_queue.proofs.priority_queue.PriorityQueue.is_empty.Goals as goal

pub returns-clause-none : goal.returns-clause-none
returns-clause-none g c =
    let ready = c.args.self.now.ready in
    let capacity = g.met.B.FixedCapacity.one_capacity ready in
    none_ready (set_in g.B.Shape g.B.Order.Endian ready) g.B.Shape.type_capacity c.all_zeros.result
    (sym capacity) c.all_zeros.ensures.in_own_order
