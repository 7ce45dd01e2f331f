use Rattle.std.proofs.Common.{◌<◌, length, refl, arith}
use Rattle.bittle.specs.PlainSet.{PlainSet}
use Rattle.bittle.specs.Values.{set_in}
use Rattle.bit_histories.proofs.Histories.{answer_served}
use Rattle.bittle.proofs.Replies.{state_step, replies_step}
use Rattle.bit_queue.specs.Queue.{answer_to, state_after, event_answers, final_state}
use Rattle.bit_queue.proofs.QueueLaws.{tasks_are_below}
use Rattle.bit_queue.proofs.priority_queue.PriorityQueue.serve.Goals as goal

pub loop-i-init : goal.loop-i-init
unfolding event_answers final_state
loop-i-init g c = record { answers = refl; ready = refl }

pub loop-i-preserved : goal.loop-i-preserved
unfolding event_answers final_state
loop-i-preserved g c =
    let t = c.loop-i.invariant in
    let a = c.answer.ensures in
    let in_events : c.loop-i.i < length c.args.events.now = omega arith in
    let in_answers : c.loop-i.i < length c.loop-i.answers = omega arith in
    record {
      answers = replies_step state_after _ _ c.args.events.now c.loop-i.i _ in_events t.ready
          answer_to c.loop-i.answers c.answer.result in_answers t.answers a.answer;
      ready = state_step state_after _ _ c.args.events.now c.loop-i.i _ in_events t.ready _
          a.ready;
    }

pub returns-clause-below : goal.returns-clause-below
returns-clause-below g c i task d in_answers e =
    let s : PlainSet = set_in g.B.Shape g.B.Order.Endian c.args.self.now.ready in
    let capacity = g.met.B.FixedCapacity.one_capacity c.args.self.now.ready in
    let answered = answer_served (event_answers s) c.args.events.now c.loop-i.answers
    c.loop-i.i i d _ (omega arith) c.loop-i-test.false c.loop-i.invariant.answers in_answers e in
    let below : task < s.capacity = tasks_are_below s c.args.events.now i task answered in
    omega (arith, capacity, below)
