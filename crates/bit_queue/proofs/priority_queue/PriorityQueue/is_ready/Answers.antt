use Rattle.std.proofs.Common.{sym, ◌∙◌, arith}
use Rattle.bit_queue.proofs.Urgency.{is_ready-within}
use Rattle.bit_queue.proofs.priority_queue.PriorityQueue.is_ready.Goals as goal

pub returns-then-task-bits-clause-value : goal.returns-then-task-bits-clause-value
returns-then-task-bits-clause-value g c =
    let capacity = g.met.B.FixedCapacity.one_capacity c.args.self.now.ready in
    let bits = c.bits.ensures.value c.args.self.now.fits in
    c.test_bit.ensures.value ∙ sym (is_ready-within _ c.args.task
    (omega (arith, capacity, bits, c.if-task-bits.true)))
