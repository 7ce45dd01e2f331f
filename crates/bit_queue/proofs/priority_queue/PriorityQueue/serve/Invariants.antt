use Rattle.std.proofs.Common.{◌≡◌, take}
use Rattle.bittle.specs.Values.{set_in}
use Rattle.bit_queue.specs.Queue.{event_answers, final_state}
use Rattle.bit_queue.proofs.priority_queue.PriorityQueue.serve.Given as goal

abbrev pub invariant-loop-i : goal.invariant-loop-i
invariant-loop-i g l =
    let s = set_in g.B.Shape g.B.Order.Endian l.initial.self.ready in
    record {
      answers : take l.i l.answers ≡ event_answers s (take l.i l.events);
      ready : set_in g.B.Shape g.B.Order.Endian l.self.ready ≡ final_state s (take l.i l.events);
    }
