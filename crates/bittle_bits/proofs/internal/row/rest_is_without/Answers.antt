use Rattle.std.proofs.Common.{sym, arith}
use Rattle.std.proofs.lemmas.Bool.{eq-eqb}
use Rattle.bittle_bits.proofs.RowSizes.{one_with, row_without}
use Rattle.bittle_bits.proofs.internal.row.rest_is_without.Goals as goal

pub returns-then-not-has_none : goal.returns-then-not-has_none
returns-then-not-has_none g c = sym
    (one_with g.T.Shape.type_capacity g.T.Shape.big c.args.elements.now
    g.met.T.FixedCapacity.one_capacity g.K.Kind.ONES c.loop-at.at _ c.index-elements-at.is
    (omega arith) _ c.has_none.ensures c.if-not-has_none.true)

pub returns : goal.returns
returns g c = sym (eq-eqb _ _
    (row_without g.T.Shape.type_capacity g.T.Shape.big c.args.elements.now
    g.met.T.FixedCapacity.one_capacity g.K.Kind.ONES
    (λ k d h. c.loop-at.invariant k d (omega arith))))
