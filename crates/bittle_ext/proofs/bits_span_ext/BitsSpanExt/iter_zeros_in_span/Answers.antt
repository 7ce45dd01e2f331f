use Rattle.bittle_ext.proofs.RangesBelow.{lists_of_part}
use Rattle.bittle_ext.proofs.bits_span_ext.BitsSpanExt.iter_zeros_in_span.Goals as goal

pub returns-clause-items : goal.returns-clause-items
returns-clause-items g c =
    lists_of_part c.part_of-start.ensures.others c.part_of-start.ensures.part _
    c.iter_within.ensures.items
