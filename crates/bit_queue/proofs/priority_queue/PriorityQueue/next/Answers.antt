use Rattle.std.proofs.Common.{ap, ◌∙◌}
use Rattle.bittle.specs.PlainSet.{PlainSet}
use Rattle.bittle.specs.Values.{set_in}
use Rattle.bit_queue.specs.Queue.{without_picked}
use Rattle.bit_queue.proofs.Urgency.{ready-member, is_taken_out, one_fewer, now_rests}
use Rattle.bit_queue.proofs.Urgency.{takes_no_other}
use Rattle.bit_queue.proofs.priority_queue.PriorityQueue.next.Goals as goal

pub returns-in_err-task-clause-task : goal.returns-in_err-task-clause-task
returns-in_err-task-clause-task g c = c.from_residual.ensures ∙ c.in_err-task.ensures.task

pub returns-in_err-task-clause-ready : goal.returns-in_err-task-clause-ready
returns-in_err-task-clause-ready g c =
    let s : PlainSet = set_in g.B.Shape g.B.Order.Endian c.args.self.now.ready in
    ap (without_picked s) c.in_err-task.ensures.task

pub returns-clause-was_ready : goal.returns-clause-was_ready
returns-clause-was_ready g c =
    let s : PlainSet = set_in g.B.Shape g.B.Order.Endian c.args.self.now.ready in
    let urgent = c.in_ok-task.ensures.urgent in
    ready-member s c.in_ok-task.task urgent.within urgent.is_ready

pub returns-clause-rests : goal.returns-clause-rests
returns-clause-rests g c =
    let s : PlainSet = set_in g.B.Shape g.B.Order.Endian c.args.self.now.ready in
    now_rests s _ c.in_ok-task.task c.in_ok-task.ensures.urgent.within c.clear_bit.ensures.set

pub returns-clause-count : goal.returns-clause-count
returns-clause-count g c =
    let s : PlainSet = set_in g.B.Shape g.B.Order.Endian c.args.self.now.ready in
    let urgent = c.in_ok-task.ensures.urgent in
    one_fewer s _ c.in_ok-task.task urgent.within c.clear_bit.ensures.set urgent.is_ready

pub returns-clause-others : goal.returns-clause-others
returns-clause-others g c =
    let s : PlainSet = set_in g.B.Shape g.B.Order.Endian c.args.self.now.ready in
    takes_no_other s _ c.in_ok-task.task c.in_ok-task.ensures.urgent.within c.clear_bit.ensures.set

pub returns-clause-ready : goal.returns-clause-ready
returns-clause-ready g c =
    let s : PlainSet = set_in g.B.Shape g.B.Order.Endian c.args.self.now.ready in
    is_taken_out s _ c.in_ok-task.task c.in_ok-task.ensures.urgent.within c.clear_bit.ensures.set
    ∙ ap (without_picked s) c.in_ok-task.ensures.task
