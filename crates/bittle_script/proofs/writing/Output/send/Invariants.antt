use Rattle.std.proofs.Common.{◌≡◌, ◌≤◌, ◌+◌, ◌-◌, length, drop}
use Rattle.bittle_script.specs.Beginnings.{HasBegun}
use Rattle.bittle_script.proofs.writing.Output.send.Given as goal

abbrev pub invariant-loop-sent : goal.invariant-loop-sent
invariant-loop-sent g l = record {
  same_writer : l.self.writer.ghost_name ≡ l.initial.self.writer.ghost_name;
  same_bytes : l.self.waiting ≡ l.initial.self.waiting;
  interrupted : l.initial.self.interrupted ≤ l.self.interrupted;
  within : l.sent ≤ length l.initial.self.waiting;
  begun : HasBegun (g.W.Write.contents l.initial.self.writer.now)
      (g.W.Write.contents l.self.writer.now) l.initial.self.waiting
      (drop l.sent l.initial.self.waiting);
}

abbrev pub decreases-loop-sent : goal.decreases-loop-sent
decreases-loop-sent g l = (length l.self.waiting - l.sent) + (8192 - l.self.interrupted)
