use Rattle.std.proofs.Common.{◌≡◌}
use Rattle.bittle.specs.Values.{set_in}
use Rattle.bittle_ext.specs.Rotations.{HasWordsOf}
use Rattle.bittle_ext.proofs.RotatedWords.{ends_mirrored}
use Rattle.bittle_ext.proofs.in_place_rotations.reverse_words.Given as goal

abbrev pub invariant-loop-k : goal.invariant-loop-k
invariant-loop-k g l = record {
  words : HasWordsOf g.B.Shape.width (ends_mirrored l.from l.to l.k)
      (set_in g.B.Shape g.E.Endian l.initial.set) (set_in g.B.Shape g.E.Endian l.set);
  stays : g.B.Shape.loan l.initial.set ≡ g.B.Shape.loan l.set;
}
