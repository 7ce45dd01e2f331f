use Rattle.std.proofs.Common.{◌≡◌, ◌+◌, ◌*◌, ◌/◌, subst, arith}
use Rattle.bittle_bits.specs.Rows.{IsCombinedBelow}
use Rattle.bittle_bits.proofs.internal.row.combine_by_fours.Goals as goal

pub loop-rest-init : goal.loop-rest-init
loop-rest-init g c xs old = subst (IsCombinedBelow g.O.Operation.decide g.T.Shape.big xs
    c.args.others.now c.loop-four.elements) (omega arith) old

pub returns : goal.returns
returns g c =
    let below = IsCombinedBelow g.O.Operation.decide g.T.Shape.big c.args.elements.now
    c.args.others.now in
    let by_fours : c.loop-four.four * 4 ≡ c.args.common / 4 * 4 = omega arith in
    let all : c.args.common / 4 * 4 + c.loop-rest.rest ≡ c.args.common = omega arith in
    subst (below c.loop-rest.elements) all (c.loop-rest.invariant _
    (subst (below c.loop-four.elements) by_fours c.loop-four.invariant))
