use Rattle.std.proofs.Common.{arith, refl}
use Rattle.bittle_bits.proofs.PlainSets.{members-past}
use Rattle.bittle_bits.proofs.Sizes.{size-le}
use Rattle.bittle_ext.proofs.ZeroCounts.{counts_none, not_common}
use Rattle.bittle_ext.proofs.bits_relation_ext.BitsRelationExt.count_common.Goals as goal

pub returns-clause-at_most : goal.returns-clause-at_most
returns-clause-at_most g c = omega (
  arith,
  c.count_common.ensures.first_only,
  size-le (g.Self.Shape.big c.args.self.now),
)

pub returns-clause-at_most_ours : goal.returns-clause-at_most_ours
returns-clause-at_most_ours g c = omega (arith, c.count_common.ensures.first_only)

pub returns-clause-at_most_other : goal.returns-clause-at_most_other
returns-clause-at_most_other g c = omega (
  arith,
  c.count_common.ensures.few,
  size-le (g.B.Shape.big c.args.other.now),
)

pub returns-clause-none : goal.returns-clause-none
returns-clause-none g c =
    let ours = g.met.Self.ReadWords in
    let theirs = g.met.B.ReadWords in
    counts_none not_common refl _ _
    (members-past g.Self.Order.Endian.mirrored _ _ ours.width_positive
    (ours.whole_words c.args.self.now) (ours.none_past c.args.self.now))
    (members-past g.B.Order.Endian.mirrored _ _ theirs.width_positive
    (theirs.whole_words c.args.other.now) (theirs.none_past c.args.other.now))
    _ c.count_common.ensures.both
