use Rattle.std.proofs.Common.{◌≡◌, ◌≤◌, drop}
use Rattle.bittle_script.specs.Outputs.{HasPut}
use Rattle.bittle_script.proofs.writing.Output.put.Given as goal

abbrev pub invariant-loop-byte : goal.invariant-loop-byte
invariant-loop-byte g l = record {
  same_writer : l.self.writer.ghost_name ≡ l.initial.self.writer.ghost_name;
  interrupted : l.initial.self.interrupted ≤ l.self.interrupted;
  begun : HasPut g.W.Write.contents l.initial.self l.self l.bytes (drop l.byte-index l.bytes);
}
