use Rattle.bittle.specs.PlainSet.{PlainSet}
use Rattle.bittle.specs.Values.{set_in}
use Rattle.bittle_bits.proofs.PlainSets.{members-past}
use Rattle.bittle_ext.proofs.KeptSizes.{none_alone, size_subset}
use Rattle.bittle_ext.proofs.bits_relation_ext.BitsRelationExt.is_subset.Goals as goal

pub returns-clause-at_most : goal.returns-clause-at_most
returns-clause-at_most g c is =
    let part : PlainSet = set_in g.Self.Shape g.Self.Order.Endian c.args.self.now in
    let whole : PlainSet = set_in g.B.Shape g.B.Order.Endian c.args.other.now in
    size_subset part whole
    (members-past g.B.Order.Endian.mirrored _ _ g.met.B.ReadWords.width_positive
    (g.met.B.ReadWords.whole_words c.args.other.now)
    (g.met.B.ReadWords.none_past c.args.other.now))
    (none_alone part whole c.first_alone.result c.is_none.result c.is_none.ensures is
    c.first_alone.ensures.first)
