use Rattle.std.proofs.Common.{arith}
use Rattle.bit_queue.proofs.Urgency.{is_woken, is_counted, grows_by_one, is_now_ready}
use Rattle.bit_queue.proofs.Urgency.{wakes_no_other}
use Rattle.bit_queue.proofs.priority_queue.PriorityQueue.wake.Goals as goal

pub returns-clause-is_ready : goal.returns-clause-is_ready
returns-clause-is_ready g c h =
    let capacity = g.met.B.FixedCapacity.one_capacity c.args.self.now.ready in
    is_now_ready _ _ c.args.task (omega (arith, capacity, h)) c.set_bit.ensures.set

pub returns-clause-ready : goal.returns-clause-ready
returns-clause-ready g c =
    let capacity = g.met.B.FixedCapacity.one_capacity c.args.self.now.ready in
    let bits = c.bits.ensures.value c.args.self.now.fits in
    is_woken _ _ c.args.task (omega (arith, capacity, bits, c.if-task-bits.false))
    c.set_bit.ensures.set

pub returns-clause-count : goal.returns-clause-count
returns-clause-count g c =
    let capacity = g.met.B.FixedCapacity.one_capacity c.args.self.now.ready in
    let bits = c.bits.ensures.value c.args.self.now.fits in
    is_counted _ _ c.args.task (omega (arith, capacity, bits, c.if-task-bits.false))
    c.set_bit.ensures.set

pub returns-clause-others : goal.returns-clause-others
returns-clause-others g c =
    let capacity = g.met.B.FixedCapacity.one_capacity c.args.self.now.ready in
    let bits = c.bits.ensures.value c.args.self.now.fits in
    wakes_no_other _ _ c.args.task (omega (arith, capacity, bits, c.if-task-bits.false))
    c.set_bit.ensures.set

pub returns-clause-at_least : goal.returns-clause-at_least
returns-clause-at_least g c =
    let capacity = g.met.B.FixedCapacity.one_capacity c.args.self.now.ready in
    let bits = c.bits.ensures.value c.args.self.now.fits in
    (grows_by_one _ _ _ (is_counted _ _ c.args.task
    (omega (arith, capacity, bits, c.if-task-bits.false)) c.set_bit.ensures.set)).0

pub returns-clause-at_most : goal.returns-clause-at_most
returns-clause-at_most g c =
    let capacity = g.met.B.FixedCapacity.one_capacity c.args.self.now.ready in
    let bits = c.bits.ensures.value c.args.self.now.fits in
    (grows_by_one _ _ _ (is_counted _ _ c.args.task
    (omega (arith, capacity, bits, c.if-task-bits.false)) c.set_bit.ensures.set)).1
