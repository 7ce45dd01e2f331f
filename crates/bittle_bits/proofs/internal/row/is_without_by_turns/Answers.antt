use Rattle.std.proofs.Common.{◌≡◌, sym, arith}
use Rattle.std.proofs.lemmas.Bool.{eq-eqb}
use Rattle.bittle_bits.proofs.RowSizes.{one_with, one_without, row_without}
use Rattle.bittle_bits.proofs.internal.row.is_without_by_turns.Goals as goal

pub returns-then-elements-eq0 : goal.returns-then-elements-eq0
returns-then-elements-eq0 g c = sym (eq-eqb _ _
    (row_without g.T.Shape.type_capacity g.T.Shape.big c.args.elements.now
    g.met.T.FixedCapacity.one_capacity g.K.Kind.ONES (λ k d h. absurd (omega arith))))

pub returns-then-not-has_none : goal.returns-then-not-has_none
returns-then-not-has_none g c = sym
    (one_with g.T.Shape.type_capacity g.T.Shape.big c.args.elements.now
    g.met.T.FixedCapacity.one_capacity g.K.Kind.ONES 0 _ c.index-elements-0.is (omega arith) _
    c.has_none.ensures c.if-not-has_none.true)

pub rest_is_without-requires-clause-without : goal.rest_is_without-requires-clause-without
rest_is_without-requires-clause-without g c k d h =
    let first : k ≡ 0 = omega arith in
    rw first (one_without g.T.Shape.type_capacity g.T.Shape.big c.args.elements.now
    g.met.T.FixedCapacity.one_capacity g.K.Kind.ONES 0 _ c.index-elements-0.is (omega arith) _
    c.has_none.ensures c.if-not-has_none.false d)
