use Rattle.std.proofs.Common.{◌≡◌, ◌++◌}
use Rattle.std.specs.Prelude.{codes}
use Rattle.bittle_script.specs.Answers.{line_of_members}
use Rattle.bittle_script.specs.Outputs.{HasPut}
use Rattle.bittle.specs.Values.{set_in}
use Rattle.bittle_script.proofs.MemberLines.{spaced_numbers}
use Rattle.bittle_script.proofs.answering.print_members.Given as goal

abbrev pub invariant-loop-member : goal.invariant-loop-member
invariant-loop-member g l = record {
  same_writer : l.output.writer.ghost_name ≡ l.initial.output.writer.ghost_name;
  begun : HasPut g.W.Write.contents l.initial.output l.output
      (line_of_members (set_in g.B.Shape g.E.Endian l.bits))
      (spaced_numbers l.space l.member-iterator.remaining ++ codes "\n");
}
