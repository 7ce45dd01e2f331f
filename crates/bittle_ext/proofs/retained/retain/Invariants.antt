use Rattle.std.proofs.Common.{◌≡◌, ◌+◌, ◌-◌, ◌*◌, ◌≤◌, ℕ, length}
use Rattle.bittle.specs.BitPatterns.{bit_set}
use Rattle.bittle.specs.PlainSet.{PlainSet, ascending}
use Rattle.bittle.specs.Values.{set_in}
use Rattle.bittle_ext.specs.Calls.{IsCallableBelow}
use Rattle.bittle_ext.proofs.RetainSteps.{RetainsBelow}
use Rattle.bittle_ext.proofs.RetainedWords.{IsHalfway}
use Rattle.bittle_ext.proofs.retained.retain.Given as goal

abbrev pub invariant-loop-k : goal.invariant-loop-k
invariant-loop-k g l =
    let before = set_in g.B.Shape g.E.Endian l.initial.bits in
    record {
      callable : IsCallableBelow before.capacity g.F.FnMut l.keep;
      within : l.k ≤ l.words;
      whole : l.words * g.B.Shape.width ≡ before.capacity;
      retains : RetainsBelow (goal.F-step g) l.initial.keep before l.keep
          (set_in g.B.Shape g.E.Endian l.bits) (l.k * g.B.Shape.width);
      stays : g.B.Shape.loan l.initial.bits ≡ g.B.Shape.loan l.bits;
    }

abbrev pub decreases-loop-k : goal.decreases-loop-k
decreases-loop-k g l = l.words - l.k

-- the calls so far in the word go on from those before it
abbrev pub invariant-loop-index : goal.invariant-loop-index
invariant-loop-index g l =
    let w = g.B.Shape.width in
    let R = goal.F-step g in
    let now = set_in g.B.Shape g.E.Endian l.bits in
    record {
      callable : IsCallableBelow now.capacity g.F.FnMut l.keep;
      inside : l.k * w + w ≤ now.capacity;
      same : l.before ≡ l.rest;
      halfway : (t : PlainSet) × (from : ℕ) × IsHalfway w l.k
          (bit_set w (g.B.LeafWord.Word.pattern l.kept)).has
          (bit_set w (g.B.LeafWord.Word.pattern l.rest)).has now t from
          × ((first : g.row.F.Denot) (old : PlainSet) →
          RetainsBelow R first old l.initial.keep now (l.k * w) →
          RetainsBelow R first old l.keep t from);
    }

abbrev pub decreases-loop-index : goal.decreases-loop-index
decreases-loop-index g l =
    let w = g.B.Shape.width in
    length (ascending (bit_set w (g.B.LeafWord.Word.pattern l.rest)))
