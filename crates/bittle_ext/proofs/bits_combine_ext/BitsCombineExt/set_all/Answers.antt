use Rattle.std.proofs.Common.{ap, ◌∙◌}
use Rattle.std.proofs.lemmas.Bool.{lt-ltb}
use Rattle.bittle.specs.PlainSet.{full_set, size, with_span}
use Rattle.bittle.proofs.CallerSets.{size_whole}
use Rattle.bittle_bits.proofs.PlainSets.{full_set_in_each_order}
use Rattle.bittle_ext.proofs.GrownSets.{all_set}
use Rattle.bittle_ext.proofs.bits_combine_ext.BitsCombineExt.set_all.Goals as goal

pub returns-clause-set : goal.returns-clause-set
returns-clause-set g c =
    let old = c.args.self.now in
    ◌∙◌ {b = with_span (g.Self.Shape.big old) 0 c.bits_capacity-capacity.result}
    c.set_range_in.ensures.set
    (all_set (g.Self.Shape.big old) _ (c.bits_capacity-capacity.ensures.value c.requires)
    (g.met.Self.ReadWords.none_past old))

pub returns-clause-in_each_order : goal.returns-clause-in_each_order
returns-clause-in_each_order g c m =
    let old = c.args.self.now in
    full_set_in_each_order _ _ _ g.met.Self.ReadWords.width_positive
    (g.met.Self.ReadWords.whole_words old) (returns-clause-set g c) m

pub returns-clause-in_own_order : goal.returns-clause-in_own_order
returns-clause-in_own_order g c = returns-clause-in_each_order g c _

pub returns-clause-count : goal.returns-clause-count
returns-clause-count g c =
    let n = (g.Self.Shape.big c.args.self.now).capacity in
    ap size (returns-clause-set g c) ∙ size_whole (full_set n) (λ k l. lt-ltb k n l)
