use Rattle.std.proofs.Common.{◌∙◌}
use Rattle.bittle_ext.proofs.RangesBelow.{within_part}
use Rattle.bittle_ext.proofs.bits_span_ext.BitsSpanExt.within_span.Goals as goal

pub returns-clause-set : goal.returns-clause-set
returns-clause-set g c = c.of.ensures.set
    ∙ within_part c.part_of-start.ensures.ends c.part_of-start.ensures.part
