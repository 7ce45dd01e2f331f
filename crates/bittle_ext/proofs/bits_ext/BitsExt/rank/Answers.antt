use Rattle.std.proofs.Common.{arith}
use Rattle.bittle.specs.Values.{set_in}
use Rattle.bittle_bits.proofs.MembersBelow.{below_between}
use Rattle.bittle_ext.proofs.KeptSizes.{below_member}
use Rattle.bittle_ext.proofs.RankFacts.{below_past, below_stays, below_zero}
use Rattle.bittle_ext.proofs.bits_ext.BitsExt.rank.Goals as goal

pub returns-clause-value : goal.returns-clause-value
returns-clause-value g c =
    let s = set_in g.Self.Shape g.Self.Order.Endian c.args.self.now in
    let ends = c.capacity_of.ensures.ends in
    let all = below_past s s.capacity c.args.index c.min.result ends.past
    (omega (arith, c.min.ensures, ends.capacity)) in
    omega (arith, all, c.count_ones_in_range_in.ensures.value, below_zero s)

pub returns-clause-at_most_all : goal.returns-clause-at_most_all
returns-clause-at_most_all g c =
    let s = set_in g.Self.Shape g.Self.Order.Endian c.args.self.now in
    let ends = c.capacity_of.ensures.ends in
    let few = below_between s c.min.result s.capacity
    (omega (arith, c.min.ensures, ends.capacity)) in
    omega (arith, few.0, c.count_ones_in_range_in.ensures.value)

pub returns-clause-below_member : goal.returns-clause-below_member
returns-clause-below_member g c has =
    let s = set_in g.Self.Shape g.Self.Order.Endian c.args.self.now in
    omega (
      arith,
      below_member s c.args.index c.capacity_of.ensures.ends.past has,
      returns-clause-value g c,
    )

pub returns-clause-none : goal.returns-clause-none
returns-clause-none g c none =
    let s = set_in g.Self.Shape g.Self.Order.Endian c.args.self.now in
    let same = below_stays s 0 c.args.index (omega arith) none in
    omega (arith, same, returns-clause-value g c, below_zero s)
