use Rattle.bittle.specs.Values.{set_in}
use Rattle.bittle_ext.proofs.SetFacts.{all_where_none, lacks_where_some}
use Rattle.bittle_ext.proofs.bits_span_ext.BitsSpanExt.all_in_span.Goals as goal

pub returns-clause-unset : goal.returns-clause-unset
returns-clause-unset g c within =
    let ends = c.ends_of-from.ensures in
    all_where_none (set_in g.Self.Shape g.Self.Order.Endian c.args.self.now) _ _
    c.first_zero_in.result c.is_none.result c.is_none.ensures within
    (rw (ends.start, ends.end, c.capacity_of-capacity.ensures.ends.capacity) at
    c.first_zero_in.ensures)

pub returns-clause-value : goal.returns-clause-value
returns-clause-value g c =
    let ends = c.ends_of-from.ensures in
    let within = rw (ends.end, c.capacity_of-capacity.ensures.ends.capacity)
    at c.if-to-capacity.false in
    lacks_where_some (set_in g.Self.Shape g.Self.Order.Endian c.args.self.now) _ _
    c.is_none.result within (returns-clause-unset g c within)
