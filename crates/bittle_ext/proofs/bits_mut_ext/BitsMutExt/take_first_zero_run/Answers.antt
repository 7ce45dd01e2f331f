use Rattle.std.proofs.Common.{ap, ◌∙◌}
use Rattle.bittle.specs.PlainSet.{size}
use Rattle.bittle.specs.Values.{set_in}
use Rattle.bittle_ext.proofs.CallerSpans.{has_after_set_span}
use Rattle.bittle_ext.proofs.RunCounts.{size_with_run}
use Rattle.bittle_ext.proofs.bits_mut_ext.BitsMutExt.take_first_zero_run.Goals as goal

pub returns-clause-more : goal.returns-clause-more
returns-clause-more g c =
    ap size c.set_range_in.ensures.set
    ∙ size_with_run (set_in g.Self.Shape g.Self.Order.Endian c.args.self.now) c.args.length _
    c.in_ok-from.ensures.run.1

pub returns-clause-taken : goal.returns-clause-taken
returns-clause-taken g c k low high =
    has_after_set_span (set_in g.Self.Shape g.Self.Order.Endian c.args.self.now) _ _ _ k
    c.set_range_in.ensures.set low high
