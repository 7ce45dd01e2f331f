use Rattle.std.proofs.Common.{sym, ◌∙◌}
use Rattle.bittle.specs.PlainSet.{PlainSet}
use Rattle.bittle.specs.Values.{set_in}
use Rattle.bit_queue.specs.QueueLaws.{IsMostUrgent}
use Rattle.bit_queue.proofs.Urgency.{most_urgent-found, urgent_found, found_counts}
use Rattle.bit_queue.proofs.Urgency.{found_if_any}
use Rattle.bit_queue.proofs.priority_queue.PriorityQueue.peek.Goals as goal

pub returns-clause-task : goal.returns-clause-task
returns-clause-task g c =
    let s : PlainSet = set_in g.B.Shape g.B.Order.Endian c.args.self.now.ready in
    let capacity = g.met.B.FixedCapacity.one_capacity c.args.self.now.ready in
    let bits = c.bits.ensures.value c.args.self.now.fits in
    most_urgent-found s _ c.first_one_in.result (bits ∙ sym capacity) c.first_one_in.ensures

pub returns-clause-urgent : goal.returns-clause-urgent
returns-clause-urgent g c =
    let s : PlainSet = set_in g.B.Shape g.B.Order.Endian c.args.self.now.ready in
    let capacity = g.met.B.FixedCapacity.one_capacity c.args.self.now.ready in
    urgent_found s _ c.first_one_in.result (sym capacity) (returns-clause-task g c)

pub returns-clause-some : goal.returns-clause-some
returns-clause-some g c =
    let s : PlainSet = set_in g.B.Shape g.B.Order.Endian c.args.self.now.ready in
    let capacity = g.met.B.FixedCapacity.one_capacity c.args.self.now.ready in
    found_counts s _ c.first_one_in.result (IsMostUrgent s) (sym capacity)
    (λ k urgent. (urgent.within, urgent.is_ready)) (returns-clause-urgent g c)

pub returns-clause-succeeds : goal.returns-clause-succeeds
returns-clause-succeeds g c = found_if_any _ c.first_one_in.result (returns-clause-some g c)
