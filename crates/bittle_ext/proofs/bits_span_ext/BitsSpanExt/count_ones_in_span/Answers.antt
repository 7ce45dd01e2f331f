use Rattle.std.proofs.Common.{◌∙◌, arith}
use Rattle.bittle.specs.Values.{set_in}
use Rattle.bittle_bits.proofs.MembersBelow.{below_between}
use Rattle.bittle_ext.proofs.FoundSizes.{count_of_all, count_of_none}
use Rattle.bittle_ext.proofs.RangesBelow.{count_of_part}
use Rattle.bittle_ext.proofs.bits_span_ext.BitsSpanExt.count_ones_in_span.Goals as goal

pub returns-clause-value : goal.returns-clause-value
returns-clause-value g c = c.count_ones_in_range_in.ensures.value
    ∙ count_of_part c.part_of-start.ensures.ends c.part_of-start.ensures.part

pub returns-clause-at_most_all : goal.returns-clause-at_most_all
returns-clause-at_most_all g c =
    let s = set_in g.Self.Shape g.Self.Order.Endian c.args.self.now in
    let part = c.part_of-start.ensures.part in
    let few = below_between s c.part_of-start.result.1 s.capacity part.inside in
    omega (arith, few.0, c.count_ones_in_range_in.ensures.value)

pub returns-clause-all : goal.returns-clause-all
returns-clause-all g c all = returns-clause-value g c
    ∙ count_of_all (set_in g.Self.Shape g.Self.Order.Endian c.args.self.now) _ _ all

pub returns-clause-none : goal.returns-clause-none
returns-clause-none g c none = returns-clause-value g c
    ∙ count_of_none (set_in g.Self.Shape g.Self.Order.Endian c.args.self.now) _ _ none
