use Rattle.std.proofs.Common.{length, refl, sym, ap, ◌∙◌, arith}
use Rattle.bittle.specs.Values.{set_in}
use Rattle.bittle_bits.proofs.AscendingLists.{ascending-length}
use Rattle.bittle_bits.proofs.PlainSets.{members-past}
use Rattle.bittle_ext.specs.Combined.{just_one_of}
use Rattle.bittle_ext.proofs.ZeroCounts.{counts_none, not_in_one}
use Rattle.bittle_ext.proofs.bits_relation_ext.BitsRelationExt.count_different.Goals as goal

pub returns-then-are_alike-clause-value : goal.returns-then-are_alike-clause-value
returns-then-are_alike-clause-value g c =
    let different = just_one_of (set_in g.Self.Shape g.Self.Order.Endian c.args.self.now)
    (set_in g.B.Shape g.B.Order.Endian c.args.other.now) in
    c.count_ones.ensures.in_each_order g.Self.Order.Endian.mirrored ∙ sym (ascending-length _)
    ∙ ap length c.of_alike-view.ensures.items ∙ ascending-length different

pub returns-clause-at_most : goal.returns-clause-at_most
returns-clause-at_most g c =
    let all = c.count_common-common.ensures in
    omega (
      arith,
      all.just_one,
      all.most,
      c.count_ones-2.ensures.value,
      c.count_ones-3.ensures.value,
    )

pub returns-then-are_alike-clause-none : goal.returns-then-are_alike-clause-none
returns-then-are_alike-clause-none g c =
    let ours = g.met.Self.ReadWords in
    let theirs = g.met.B.ReadWords in
    counts_none not_in_one refl _ _
    (members-past g.Self.Order.Endian.mirrored _ _ ours.width_positive
    (ours.whole_words c.args.self.now) (ours.none_past c.args.self.now))
    (members-past g.B.Order.Endian.mirrored _ _ theirs.width_positive
    (theirs.whole_words c.args.other.now) (theirs.none_past c.args.other.now))
    _ (returns-then-are_alike-clause-value g c)

pub returns-clause-none : goal.returns-clause-none
returns-clause-none g c =
    let ours = g.met.Self.ReadWords in
    let theirs = g.met.B.ReadWords in
    counts_none not_in_one refl _ _
    (members-past g.Self.Order.Endian.mirrored _ _ ours.width_positive
    (ours.whole_words c.args.self.now) (ours.none_past c.args.self.now))
    (members-past g.B.Order.Endian.mirrored _ _ theirs.width_positive
    (theirs.whole_words c.args.other.now) (theirs.none_past c.args.other.now))
    _ (omega (
      arith,
      c.count_common-common.ensures.just_one,
      c.count_ones-2.ensures.value,
      c.count_ones-3.ensures.value,
    ))
