use Rattle.std.proofs.Common.{ap, ◌∙◌}
use Rattle.bittle.specs.PlainSet.{ascending}
use Rattle.bittle.specs.Values.{set_in}
use Rattle.bittle_ext.proofs.RangeItems.{lists_kind}
use Rattle.bittle_ext.proofs.range_iterators.iter_within.Goals as goal

pub returns-clause-items : goal.returns-clause-items
returns-clause-items g c = lists_kind g.K.Kind.ONES
    (set_in g.B.Shape g.E.Endian c.args.bits.now) _ _
    _ c.requires.ordered c.requires.within
    (rw c.new.ensures at c.new-2.ensures.remaining ∙ ap ascending c.of.ensures.set)
