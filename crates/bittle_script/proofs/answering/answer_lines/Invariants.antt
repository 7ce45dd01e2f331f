use Rattle.std.proofs.Common.{◌≡◌}
use Rattle.bittle.specs.PlainSet.{empty_set}
use Rattle.bittle_script.specs.Answers.{line_answers}
use Rattle.bittle_script.specs.Lines.{lines_left}
use Rattle.bittle.specs.Values.{set_in}
use Rattle.bittle_script.proofs.AnswerWriting.{IsUnderWay}
use Rattle.bittle_script.proofs.answering.answer_lines.Given as goal

abbrev pub invariant-loop-line : goal.invariant-loop-line
invariant-loop-line g l = record {
  same_writer : l.output.writer.ghost_name ≡ l.initial.output.writer.ghost_name;
  under_way : IsUnderWay g.W.Write.contents l.initial.output l.output
      (line_answers (empty_set g.B.Shape.type_capacity) (lines_left l.fn.lines))
      (line_answers (set_in g.B.Shape g.E.Endian l.bits)
      (lines_left l.line-iterator));
}
