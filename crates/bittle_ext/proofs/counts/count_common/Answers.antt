use Rattle.std.proofs.Common.{◌<◌, length, sym, ap, ◌∙◌, arith}
use Rattle.bittle.specs.Values.{set_in}
use Rattle.bittle.proofs.CallerSets.{contains_within}
use Rattle.bittle_bits.proofs.AscendingLists.{ascending-length}
use Rattle.bittle_bits.proofs.MembersBelow.{below_at_most}
use Rattle.bittle_ext.specs.Combined.{both_of}
use Rattle.bittle_ext.proofs.RankFacts.{below_zero}
use Rattle.bittle_ext.proofs.CommonCounts.{counted_next, counted_all, counts_both, all_in_both}
use Rattle.bittle_ext.proofs.counts.count_common.Goals as goal
use Rattle.bittle_ext.proofs.counts.count_common.Goals.{then-test_bit_in, else-test_bit_in}

pub returns-then-are_alike : goal.returns-then-are_alike
returns-then-are_alike g c =
    let left = c.capacity_of.ensures in
    let right = c.capacity_of-2.ensures in
    let both = both_of (set_in g.A.Shape g.E.Endian c.args.left.now)
    (set_in g.B.Shape g.F.Endian c.args.right.now) in
    counts_both left.ends right.ends _ _ _ left.as_many right.as_many
    (c.count_ones.ensures.in_each_order g.E.Endian.mirrored ∙ sym (ascending-length _)
    ∙ ap length c.of_first.ensures.items ∙ ascending-length both)

-- ---- by the set bits of the first

pub loop-index-init : goal.loop-index-init
loop-index-init g c =
    let s = set_in g.A.Shape g.E.Endian c.args.left.now in
    let t = set_in g.B.Shape g.F.Endian c.args.right.now in
    record { within = omega arith; counted = sym (below_zero (both_of s t)) }

pub overflow_add-count : goal.overflow_add-count
overflow_add-count g c =
    let s = set_in g.A.Shape g.E.Endian c.args.left.now in
    let t = set_in g.B.Shape g.F.Endian c.args.right.now in
    omega (
      arith,
      c.loop-index.invariant.counted,
      below_at_most (both_of s t) c.loop-index.from,
      c.in-Some.ensures.0,
      c.in-Some.ensures.1,
      c.min-common.ensures,
      c.capacity_of.ensures.ends.capacity,
      c.requires.left_fits.1,
    )

pub loop-index-preserved : goal.loop-index-preserved
loop-index-preserved g c =
    let s = set_in g.A.Shape g.E.Endian c.args.left.now in
    let t = set_in g.B.Shape g.F.Endian c.args.right.now in
    let e = c.in-Some.ensures in
    let low : c.in-Some.index < t.capacity =
    omega (arith, e.1, c.min-common.ensures, c.capacity_of-2.ensures.ends.capacity) in
    let tested = sym (contains_within t c.in-Some.index low) ∙ sym c.test_bit_in.ensures in
    record {
      within = omega (arith, e.1);
      counted = counted_next s t c.loop-index.from c.min-common.result c.in-Some.index
          c.loop-index.count c.if-test_bit_in.count c.test_bit_in.result e tested
          c.loop-index.invariant.counted
          (elim c.if-test_bit_in.branch [
            | then-test_bit_in w ↦ rw w.if-test_bit_in.true (omega (arith, w.count-is))
            | else-test_bit_in w ↦ rw w.if-test_bit_in.false (omega (arith, w.count-is))
          ]);
    }

pub returns : goal.returns
returns g c =
    let left = c.capacity_of.ensures in
    let right = c.capacity_of-2.ensures in
    counts_both left.ends right.ends _ _ _ left.as_many right.as_many
    (c.loop-index.invariant.counted
    ∙ sym (counted_all (set_in g.A.Shape g.E.Endian c.args.left.now)
    (set_in g.B.Shape g.F.Endian c.args.right.now) c.loop-index.from c.min-common.result
    c.loop-index.invariant.within c.in_default.ensures)
    ∙ all_in_both left.ends right.ends c.min-common.result c.min-common.ensures)
