use Rattle.std.proofs.Common.{Result, ◌*◌, ◌≤◌}
use Rattle.std.specs.Fmt.{WritesOnOk}
use Rattle.std.specs.declared.fmt.Error.{Error}
use Rattle.std.specs.declared.fmt.Formatter.{Formatter}
use Rattle.bittle.specs.Values.{set_in}
use Rattle.bittle_ext.specs.Texts.{binary_text, digits_below}
use Rattle.bittle_ext.proofs.binary_text.write_bits.Given as goal

-- whatever writes the rest writes the whole
abbrev pub invariant-loop-k : goal.invariant-loop-k
invariant-loop-k g l = let s = set_in g.B.Shape g.E.Endian l.set in record {
  most : l.k * g.B.Shape.width ≤ s.capacity;
  rest : (r : Result (Unit {0}) Error) (f : Formatter g.row.W.Denot) →
      WritesOnOk g.W.Write.write_str_gives l.f r
      (digits_below s.has (l.k * g.B.Shape.width)) f →
      WritesOnOk g.W.Write.write_str_gives l.fn.f r (binary_text s) f;
}

abbrev pub decreases-loop-k : goal.decreases-loop-k
decreases-loop-k g l = l.k
