use Rattle.std.proofs.Common.{◌≡◌, min, sym, ◌∙◌, arith}
use Rattle.bittle_bits.proofs.PlainSets.{members-past}
use Rattle.bittle_bits.specs.Values.{set_in}
use Rattle.bittle.proofs.FirstDifference.{AreAlikeInCommon, some_among, none_among, first_ends}
use Rattle.bittle.proofs.FirstDifference.{second_ends, both_end}
use Rattle.bittle.proofs.set.compare.first_difference_by_words.Given.{Over}
use Rattle.bittle.proofs.set.compare.first_difference_by_words.Goals.{Else-is_some}
use Rattle.bittle.proofs.set.compare.first_difference_by_words.Goals as goal

pub returns-then-is_some : goal.returns-then-is_some
returns-then-is_some g c =
    some_among (set_in g.A.Shape g.E.Endian c.args.left.now)
    (set_in g.B.Shape g.E.Endian c.args.right.now) _ c.first_decided_below-difference.result
    (sym c.is_some.ensures ∙ c.if-is_some.true) c.first_decided_below-difference.ensures.first

-- if a search of the words below both capacities finds no difference, the sets agree there
alike : (g : Over) (c : Else-is_some g) → AreAlikeInCommon
    (set_in g.A.Shape g.E.Endian c.args.left.now) (set_in g.B.Shape g.E.Endian c.args.right.now)
alike g c =
    let a = g.met.A.ReadWords in
    let b = g.met.B.ReadWords in
    let x = c.args.left.now in
    let y = c.args.right.now in
    let found = c.first_decided_below-difference in
    let least : c.min-common.result ≡ min (g.A.Shape.big x).capacity (g.B.Shape.big y).capacity =
    omega (arith, c.min-common.ensures, c.requires.capacity, c.requires.other) in
    record {
      first = members-past _ _ _ a.width_positive (a.whole_words x) (a.none_past x);
      second = members-past _ _ _ b.width_positive (b.whole_words y) (b.none_past y);
      same = rw least at (none_among (set_in g.A.Shape g.E.Endian x)
          (set_in g.B.Shape g.E.Endian y) _ found.result
          (sym c.is_some.ensures ∙ c.if-is_some.false) found.ensures.first);
    }

pub returns-then-capacity-other : goal.returns-then-capacity-other
returns-then-capacity-other g c =
    let capacity = c.requires.capacity in
    let other = c.requires.other in
    first_ends _ _ (alike g (goal.at.returns-then-capacity-other g c).Else-is_some)
    (omega (arith, capacity, other, c.if-capacity-other.true)) c.first_one_in.result
    (rw (capacity, other) at c.first_one_in.ensures)

pub returns-then-other-capacity : goal.returns-then-other-capacity
returns-then-other-capacity g c =
    let capacity = c.requires.capacity in
    let other = c.requires.other in
    second_ends _ _ (alike g (goal.at.returns-then-other-capacity g c).Else-is_some)
    (omega (arith, capacity, other, c.if-other-capacity.true))
    c.first_one_in-then-other-capacity.result
    (rw (capacity, other) at c.first_one_in-then-other-capacity.ensures)

pub returns-else-other-capacity : goal.returns-else-other-capacity
returns-else-other-capacity g c =
    both_end _ _ (alike g (goal.at.returns-else-other-capacity g c).Else-is_some) (omega (
      arith,
      c.requires.capacity,
      c.requires.other,
      c.if-capacity-other.false,
      c.if-other-capacity.false,
    ))
