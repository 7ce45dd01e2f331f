use Rattle.std.proofs.Common.{◌==◌, sym, ap, ◌∙◌}
use Rattle.bittle.specs.Values.{set_in}
use Rattle.bittle_bits.proofs.Sizes.{size_in_each_order}
use Rattle.bittle_ext.specs.RangeMembers.{members_within}
use Rattle.bittle_ext.proofs.ViewFacts.{none_within, size_read_back}
use Rattle.bittle_ext.proofs.views.within.WithinBits.all_zeros.Goals as goal

pub returns-clause-value : goal.returns-clause-value
returns-clause-value g c =
    let v = c.args.self.now in
    let s = set_in g.B.Shape g.U.Endian v.set.now in
    let b = g.met.B.ReadWords in
    none_within s v.from v.to c.end_in.result _ c.is_none.ensures v.inside c.end_in.ensures
    ∙ sym (ap (λ n. n == 0) (size_read_back g.U.Endian.mirrored g.B.Shape.width
    (members_within s v.from v.to) b.width_positive (b.whole_words v.set.now)))

pub returns-clause-in_each_order : goal.returns-clause-in_each_order
returns-clause-in_each_order g c = size_in_each_order _ _ (λ n. n == 0) _
    g.met.B.ReadWords.width_positive (g.met.B.ReadWords.whole_words c.args.self.now.set.now)
    (returns-clause-value g c)

pub returns-clause-in_own_order : goal.returns-clause-in_own_order
returns-clause-in_own_order g c = returns-clause-in_each_order g c _
