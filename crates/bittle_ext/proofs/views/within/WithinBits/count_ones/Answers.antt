use Rattle.std.proofs.Common.{arith}
use Rattle.bittle.specs.Values.{set_in}
use Rattle.bittle_bits.proofs.Sizes.{size-most, size_in_each_order}
use Rattle.bittle_ext.specs.RangeMembers.{members_within}
use Rattle.bittle_ext.proofs.RangeItems.{size_within}
use Rattle.bittle_ext.proofs.ViewFacts.{size_read_back}
use Rattle.bittle_ext.proofs.views.within.WithinBits.count_ones.Goals as goal

pub returns-clause-value : goal.returns-clause-value
returns-clause-value g c =
    let v = c.args.self.now in
    let s = set_in g.B.Shape g.U.Endian v.set.now in
    let b = g.met.B.ReadWords in
    omega (
      arith,
      c.count_ones.ensures,
      size_within s v.from v.to v.ordered v.inside,
      size_read_back g.U.Endian.mirrored g.B.Shape.width (members_within s v.from v.to)
          b.width_positive (b.whole_words v.set.now),
    )

pub returns-clause-at_most : goal.returns-clause-at_most
returns-clause-at_most g c = size-most _ _ (returns-clause-value g c)

pub returns-clause-in_each_order : goal.returns-clause-in_each_order
returns-clause-in_each_order g c = size_in_each_order _ _ (λ n. n) _
    g.met.B.ReadWords.width_positive (g.met.B.ReadWords.whole_words c.args.self.now.set.now)
    (returns-clause-value g c)

pub returns-clause-in_own_order : goal.returns-clause-in_own_order
returns-clause-in_own_order g c = returns-clause-in_each_order g c _
