use Rattle.std.proofs.Common.{refl, length-set}
use Rattle.bittle_bits.proofs.RowCalls.{goes_wrapped, row_put}
use Rattle.bittle_bits.proofs.internal.row.changed_element.Goals as goal

pub returns-clause-changed : goal.returns-clause-changed
returns-clause-changed g c i wraps =
    let each = c.fixed_capacity-each.ensures.value
    (c.requires.indexable, g.met.T.FixedCapacity.type_fits c.requires.indexable) in
    rw length-set (row_put _ _ _ _ _ _ _ g.T.Shape.big c.args.elements.now _
    g.met.T.ReadWords.width_positive g.met.T.FixedCapacity.type_whole_words
    (goes_wrapped _ _ _ i c.args.index each c.requires.filled c.requires.some wraps)
    (g.met.T.FixedCapacity.one_capacity _) refl c.index-elements-element.is
    g.K.Kind.ONES _ c.put_in_element.ensures)
