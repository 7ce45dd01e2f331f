use Rattle.std.proofs.Common.{ℕ, Bool, List, ◌++◌, codes, if◌then◌else◌, Result}
use Rattle.std.specs.Fmt.{WritesOnOk, decimal}
use Rattle.std.specs.List.{join_by, flat_map}
use Rattle.std.specs.declared.fmt.Error.{Error}
use Rattle.std.specs.declared.fmt.Formatter.{Formatter}
use Rattle.bittle.specs.DebugText.{list_text}
use Rattle.bittle.proofs.set.debug.write_all.Given as goal

-- the indexes after the first, each after a comma
abbrev pub others_text : List ℕ → List ℕ
others_text = flat_map (λ i. codes ", " ++ decimal i)

-- the text of the indexes that are left; a comma precedes them unless none is written yet
abbrev pub rest_text : Bool → List ℕ → List ℕ
rest_text first left = (if first then join_by decimal (codes ", ") left else others_text left)
    ++ codes "}"

-- if what follows writes the text of the indexes that are left, the whole text is written
abbrev pub invariant-loop-index : goal.invariant-loop-index
invariant-loop-index g l = (r : Result (Unit {0}) Error) (f : Formatter g.row.W.Denot) →
    WritesOnOk g.W.Write.write_str_gives l.f r
    (rest_text l.first (g.I.Counted.walk l.index-iterator).remaining) f →
    WritesOnOk g.W.Write.write_str_gives l.fn.f r
    (list_text (g.I.Counted.walk l.initial.index-iterator).remaining) f
