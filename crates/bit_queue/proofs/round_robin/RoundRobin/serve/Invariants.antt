use Rattle.std.proofs.Common.{◌≡◌, take}
use Rattle.bittle.specs.Values.{set_in}
use Rattle.bit_queue.specs.RoundRobin.{round_at, answers_in_turn, final_round}
use Rattle.bit_queue.proofs.round_robin.RoundRobin.serve.Given as goal

abbrev pub invariant-loop-i : goal.invariant-loop-i
invariant-loop-i g l =
    let r = round_at (set_in g.B.Shape g.B.Order.Endian l.initial.self.ready) l.initial.self.turn in
    record {
      answers : take l.i l.answers ≡ answers_in_turn r (take l.i l.events);
      round : round_at (set_in g.B.Shape g.B.Order.Endian l.self.ready) l.self.turn
          ≡ final_round r (take l.i l.events);
    }
