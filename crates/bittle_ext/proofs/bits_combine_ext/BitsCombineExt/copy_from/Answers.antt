use Rattle.std.proofs.Common.{◌∙◌}
use Rattle.bittle.specs.Values.{set_in}
use Rattle.bittle_ext.proofs.GrownSets.{copied}
use Rattle.std.proofs.Common.{ap, arith}
use Rattle.bittle.specs.PlainSet.{size}
use Rattle.bittle_ext.proofs.KeptSizes.{size_cut, size_uncut}
use Rattle.bittle_bits.proofs.PlainSets.{members-past}
use Rattle.bittle_ext.proofs.bits_combine_ext.BitsCombineExt.copy_from.Goals as goal

pub returns-clause-set : goal.returns-clause-set
returns-clause-set g c =
    c.combine_with.ensures.combined.set
    ∙ copied (set_in g.Self.Shape g.Self.Order.Endian c.args.self.now)
    (set_in g.B.Shape g.B.Order.Endian c.args.other.now)

pub returns-clause-at_most : goal.returns-clause-at_most
returns-clause-at_most g c = omega (
  arith,
  ap size (returns-clause-set g c),
  size_cut (g.Self.Shape.big c.args.self.now).capacity
      (set_in g.B.Shape g.B.Order.Endian c.args.other.now)
      (members-past g.B.Order.Endian.mirrored _ _ g.met.B.ReadWords.width_positive
      (g.met.B.ReadWords.whole_words c.args.other.now)
      (g.met.B.ReadWords.none_past c.args.other.now)),
)

pub returns-clause-count : goal.returns-clause-count
returns-clause-count g c room =
    ap size (returns-clause-set g c)
    ∙ size_uncut (g.Self.Shape.big c.args.self.now).capacity
    (set_in g.B.Shape g.B.Order.Endian c.args.other.now)
    (members-past g.B.Order.Endian.mirrored _ _ g.met.B.ReadWords.width_positive
    (g.met.B.ReadWords.whole_words c.args.other.now)
    (g.met.B.ReadWords.none_past c.args.other.now)) room
