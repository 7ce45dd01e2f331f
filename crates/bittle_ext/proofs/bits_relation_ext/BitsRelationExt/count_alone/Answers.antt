use Rattle.std.proofs.Common.{length, refl, sym, ap, ◌∙◌, arith}
use Rattle.bittle.specs.PlainSet.{PlainSet, size}
use Rattle.bittle.specs.Values.{set_in}
use Rattle.bittle_bits.proofs.AscendingLists.{ascending-length}
use Rattle.bittle_bits.proofs.PlainSets.{members-past}
use Rattle.bittle_bits.proofs.Sizes.{size-members}
use Rattle.bittle_ext.specs.Combined.{first_only_of}
use Rattle.bittle_ext.proofs.CommonCounts.{all_numbers}
use Rattle.bittle_ext.proofs.ZeroCounts.{counts_none, not_alone}
use Rattle.bittle_ext.proofs.bits_relation_ext.BitsRelationExt.count_alone.Goals as goal

pub returns-then-are_alike-clause-value : goal.returns-then-are_alike-clause-value
returns-then-are_alike-clause-value g c =
    let alone = first_only_of (set_in g.Self.Shape g.Self.Order.Endian c.args.self.now)
    (set_in g.B.Shape g.B.Order.Endian c.args.other.now) in
    c.count_ones.ensures.in_each_order g.Self.Order.Endian.mirrored ∙ sym (ascending-length _)
    ∙ ap length c.of_first.ensures.items ∙ ascending-length alone

pub returns-then-are_alike-clause-at_most_ours : goal.returns-then-are_alike-clause-at_most_ours
returns-then-are_alike-clause-at_most_ours g c =
    let b = g.met.Self.ReadWords in
    let m = g.Self.Order.Endian.mirrored in
    let big = g.Self.Shape.big c.args.self.now in
    let s : PlainSet = set_in g.Self.Shape g.Self.Order.Endian c.args.self.now in
    let t : PlainSet = set_in g.B.Shape g.B.Order.Endian c.args.other.now in
    omega (
      arith,
      c.count_ones.ensures.in_each_order m ∙ ap size c.of_first.ensures.set,
      (all_numbers s.capacity s.has t.has).0,
      size-members m _ big b.width_positive (b.whole_words c.args.self.now),
    )

pub returns-then-are_alike-clause-none : goal.returns-then-are_alike-clause-none
returns-then-are_alike-clause-none g c =
    let ours = g.met.Self.ReadWords in
    let theirs = g.met.B.ReadWords in
    counts_none not_alone refl _ _
    (members-past g.Self.Order.Endian.mirrored _ _ ours.width_positive
    (ours.whole_words c.args.self.now) (ours.none_past c.args.self.now))
    (members-past g.B.Order.Endian.mirrored _ _ theirs.width_positive
    (theirs.whole_words c.args.other.now) (theirs.none_past c.args.other.now))
    _ (returns-then-are_alike-clause-value g c)

pub returns-clause-none : goal.returns-clause-none
returns-clause-none g c =
    let ours = g.met.Self.ReadWords in
    let theirs = g.met.B.ReadWords in
    counts_none not_alone refl _ _
    (members-past g.Self.Order.Endian.mirrored _ _ ours.width_positive
    (ours.whole_words c.args.self.now) (ours.none_past c.args.self.now))
    (members-past g.B.Order.Endian.mirrored _ _ theirs.width_positive
    (theirs.whole_words c.args.other.now) (theirs.none_past c.args.other.now))
    _ (omega (arith, c.count_common.ensures.first_only, c.count_ones-2.ensures.value))
