use Rattle.std.proofs.Common.{◌≡◌, ◌-◌, ◌∙◌, arith}
use Rattle.bittle.specs.PlainSet.{complement, members_below}
use Rattle.bittle.specs.Values.{set_in}
use Rattle.bittle_bits.proofs.MembersBelow.{below_between}
use Rattle.bittle_ext.proofs.RankFacts.{below_others, range_others}
use Rattle.bittle_ext.proofs.RangesBelow.{count_of_part}
use Rattle.bittle_ext.proofs.bits_span_ext.BitsSpanExt.count_zeros_in_span.Goals as goal

pub returns-clause-value : goal.returns-clause-value
returns-clause-value g c =
    let s = set_in g.Self.Shape g.Self.Order.Endian c.args.self.now in
    let part = c.part_of-start.ensures.part in
    let start = c.part_of-start.result.0 in
    let end = c.part_of-start.result.1 in
    let between = below_between s start end part.ordered in
    let here : end - start - c.count_ones_in_range_in.result
    ≡ members_below (complement s) end - members_below (complement s) start = omega (
      arith,
      c.count_ones_in_range_in.ensures.value,
      below_others s start (omega (arith, part.ordered, part.inside)),
      below_others s end part.inside,
      between.0,
      between.1,
      part.ordered,
    ) in
    here ∙ count_of_part c.part_of-start.ensures.others part

pub returns-clause-at_most_all : goal.returns-clause-at_most_all
returns-clause-at_most_all g c =
    let s = set_in g.Self.Shape g.Self.Order.Endian c.args.self.now in
    let part = c.part_of-start.ensures.part in
    let start = c.part_of-start.result.0 in
    let end = c.part_of-start.result.1 in
    let between = below_between s start end part.ordered in
    let few = below_between (complement s) end s.capacity part.inside in
    omega (
      arith,
      few.0,
      c.count_ones_in_range_in.ensures.value,
      below_others s start (omega (arith, part.ordered, part.inside)),
      below_others s end part.inside,
      between.0,
      between.1,
      part.ordered,
    )

pub returns-clause-others : goal.returns-clause-others
returns-clause-others g c ordered within =
    range_others (set_in g.Self.Shape g.Self.Order.Endian c.args.self.now) _ _ _ ordered within
    (returns-clause-value g c)
