use Rattle.std.proofs.Common.{◌+◌, ap, ◌∙◌, arith}
use Rattle.bittle.specs.PlainSet.{PlainSet}
use Rattle.bittle.specs.Values.{set_in}
use Rattle.bit_queue.specs.RoundRobin.{round_at, past_picked}
use Rattle.bit_queue.proofs.Urgency.{ready-member, is_taken_out, one_fewer, now_rests}
use Rattle.bit_queue.proofs.Urgency.{takes_no_other}
use Rattle.bit_queue.proofs.round_robin.RoundRobin.next.Goals as goal

pub overflow_add-self : goal.overflow_add-self
overflow_add-self g c = omega (arith, c.in_ok-task.ensures.below, c.args.self.now.fits.1)

pub invariant_of-self : goal.invariant_of-self
invariant_of-self g c = record {
  fits = c.args.self.now.fits;
  within = omega (arith, c.in_ok-task.ensures.below);
}

pub returns-clause-was_ready : goal.returns-clause-was_ready
returns-clause-was_ready g c =
    let s : PlainSet = set_in g.B.Shape g.B.Order.Endian c.args.self.now.ready in
    let next = c.in_ok-task.ensures.next in
    ready-member s c.in_ok-task.task next.within next.is_ready

pub returns-clause-rests : goal.returns-clause-rests
returns-clause-rests g c =
    let s : PlainSet = set_in g.B.Shape g.B.Order.Endian c.args.self.now.ready in
    now_rests s _ c.in_ok-task.task c.in_ok-task.ensures.next.within c.clear_bit.ensures.set

pub returns-clause-count : goal.returns-clause-count
returns-clause-count g c =
    let s : PlainSet = set_in g.B.Shape g.B.Order.Endian c.args.self.now.ready in
    let next = c.in_ok-task.ensures.next in
    one_fewer s _ c.in_ok-task.task next.within c.clear_bit.ensures.set next.is_ready

pub returns-clause-others : goal.returns-clause-others
returns-clause-others g c =
    let s : PlainSet = set_in g.B.Shape g.B.Order.Endian c.args.self.now.ready in
    takes_no_other s _ c.in_ok-task.task c.in_ok-task.ensures.next.within c.clear_bit.ensures.set

pub returns-clause-round : goal.returns-clause-round
returns-clause-round g c =
    let s : PlainSet = set_in g.B.Shape g.B.Order.Endian c.args.self.now.ready in
    ap (λ t. round_at t (c.in_ok-task.task + 1))
    (is_taken_out s _ c.in_ok-task.task c.in_ok-task.ensures.next.within c.clear_bit.ensures.set)
    ∙ ap (past_picked (round_at s c.args.self.now.turn)) c.in_ok-task.ensures.task
