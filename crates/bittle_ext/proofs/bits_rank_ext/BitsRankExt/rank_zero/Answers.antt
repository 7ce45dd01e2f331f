use Rattle.std.proofs.Common.{arith}
use Rattle.bittle.specs.PlainSet.{complement}
use Rattle.bittle.specs.Values.{set_in}
use Rattle.bittle_ext.proofs.KeptSizes.{below_member, complement_ends}
use Rattle.bittle_ext.proofs.RankFacts.{below_others, below_zero}
use Rattle.bittle_ext.proofs.bits_rank_ext.BitsRankExt.rank_zero.Goals as goal

pub returns-clause-value : goal.returns-clause-value
returns-clause-value g c = omega (
  arith,
  c.count_zeros_in_range.ensures.value,
  below_zero (complement (set_in g.Self.Shape g.Self.Order.Endian c.args.self.now)),
)

pub returns-clause-below_member : goal.returns-clause-below_member
returns-clause-below_member g c has =
    let unset = complement (set_in g.Self.Shape g.Self.Order.Endian c.args.self.now) in
    omega (
      arith,
      below_member unset c.args.index
          (complement_ends (set_in g.Self.Shape g.Self.Order.Endian c.args.self.now)) has,
      returns-clause-value g c,
    )

pub returns-clause-others : goal.returns-clause-others
returns-clause-others g c within = omega (
  arith,
  returns-clause-value g c,
  below_others (set_in g.Self.Shape g.Self.Order.Endian c.args.self.now) c.args.index within,
)
