use Rattle.std.proofs.Common.{Result, ◌≤◌}
use Rattle.std.specs.Fmt.{WritesOnOk}
use Rattle.std.specs.declared.fmt.Error.{Error}
use Rattle.std.specs.declared.fmt.Formatter.{Formatter}
use Rattle.bittle.specs.BitPatterns.{bit_set}
use Rattle.bittle_ext.specs.Texts.{binary_text, digits_below}
use Rattle.bittle_ext.proofs.binary_text.write_word.Given as goal

-- whatever writes the rest writes the whole
abbrev pub invariant-loop-index : goal.invariant-loop-index
invariant-loop-index g l = let s = bit_set g.T.Word.width l.number in record {
  most : l.index ≤ g.T.Word.width;
  rest : (r : Result (Unit {0}) Error) (f : Formatter g.row.W.Denot) →
      WritesOnOk g.W.Write.write_str_gives l.f r (digits_below s.has l.index) f →
      WritesOnOk g.W.Write.write_str_gives l.fn.f r (binary_text s) f;
}

abbrev pub decreases-loop-index : goal.decreases-loop-index
decreases-loop-index g l = l.index
