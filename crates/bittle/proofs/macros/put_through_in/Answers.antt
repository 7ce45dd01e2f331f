use Rattle.std.proofs.Common.{◌+◌, ◌%◌, sym, ap, ◌∙◌, arith}
use Rattle.bittle_bits.specs.Values.{set_in}
use Rattle.bittle_bits.specs.PlainSet.{with_span}
use Rattle.bittle.proofs.RangeSets.{IsEnough, with_wrapped_range-none, no_range, one_span}
use Rattle.bittle.proofs.RangeSets.{two_spans}
use Rattle.bittle.proofs.macros.put_through_in.Given.{Over}
use Rattle.bittle.proofs.macros.put_through_in.Goals.{After-min-count}
use Rattle.bittle.proofs.macros.put_through_in.Goals as goal

pub returns-then-to-from-clause-set : goal.returns-then-to-from-clause-set
returns-then-to-from-clause-set g c = sym
    (with_wrapped_range-none _ c.args.from (c.args.to + 1) (omega arith))

pub returns-then-capacity-eq0-clause-set : goal.returns-then-capacity-eq0-clause-set
returns-then-capacity-eq0-clause-set g c =
    let is = c.bits_capacity-capacity.ensures.value c.requires in
    sym (no_range _ c.args.from (c.args.to + 1) (omega (arith, is)))

enough : (g : Over) (c : After-min-count g) → IsEnough (set_in g.B.Shape g.E.Endian c.args.bits.now)
    c.args.from (c.min-count.result + 1) (c.args.to + 1)
enough g c =
    let is = c.bits_capacity-capacity.ensures.value c.requires in
    record {
      some = omega (arith, is);
      few = omega (arith, is);
      in_range = omega arith;
      short = λ l. omega (arith, is);
    }

pub returns-then-count-room-clause-set : goal.returns-then-count-room-clause-set
returns-then-count-room-clause-set g c =
    let is = c.bits_capacity-capacity.ensures.value c.requires in
    let start = c.args.from % c.bits_capacity-capacity.result in
    one_span _ _ _ _ _ _ (enough g (goal.at.returns-then-count-room-clause-set g c).After-min-count)
    (ap (λ t. c.args.from % t) is) (omega (arith, is))
    (c.set_range_in.ensures.set
    ∙ ap (with_span (set_in g.B.Shape g.E.Endian c.args.bits.now) start) (omega arith))

pub returns-else-count-room-clause-set : goal.returns-else-count-room-clause-set
returns-else-count-room-clause-set g c =
    let is = c.bits_capacity-capacity.ensures.value c.requires in
    two_spans (set_in g.B.Shape g.E.Endian c.args.bits.now) _ _ _ _ _ _ _
    (enough g (goal.at.returns-else-count-room-clause-set g c).After-min-count)
    (ap (λ t. c.args.from % t) is) (omega (arith, is)) (omega (arith, c.if-count-room.false))
    (c.set_range_in-else-count-room.ensures.set
    ∙ ap (with_span (set_in g.B.Shape g.E.Endian c.args.bits.now) _) is)
    c.set_range_in-else-count-room-2.ensures.set
