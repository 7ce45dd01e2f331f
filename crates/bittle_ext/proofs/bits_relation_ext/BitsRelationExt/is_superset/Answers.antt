use Rattle.bittle.specs.PlainSet.{PlainSet}
use Rattle.bittle.specs.Values.{set_in}
use Rattle.bittle_bits.proofs.PlainSets.{members-past}
use Rattle.bittle_ext.proofs.KeptSizes.{none_alone, size_subset}
use Rattle.bittle_ext.proofs.bits_relation_ext.BitsRelationExt.is_superset.Goals as goal

pub returns-clause-at_least : goal.returns-clause-at_least
returns-clause-at_least g c is =
    let part : PlainSet = set_in g.B.Shape g.B.Order.Endian c.args.other.now in
    let whole : PlainSet = set_in g.Self.Shape g.Self.Order.Endian c.args.self.now in
    size_subset part whole
    (members-past g.Self.Order.Endian.mirrored _ _ g.met.Self.ReadWords.width_positive
    (g.met.Self.ReadWords.whole_words c.args.self.now)
    (g.met.Self.ReadWords.none_past c.args.self.now))
    (none_alone part whole c.first_alone.result c.is_none.result c.is_none.ensures is
    c.first_alone.ensures.first)
