use Rattle.std.proofs.Common.{◌∙◌}
use Rattle.bittle.specs.Values.{set_in}
use Rattle.bittle.proofs.CallerSets.{contains_within}
use Rattle.bittle_ext.proofs.EdgeRuns.{of_kind}
use Rattle.bittle_ext.proofs.run_iterators.is_open.Goals as goal

pub returns-then-not-is_closed : goal.returns-then-not-is_closed
returns-then-not-is_closed g c =
    let set = set_in g.B.Shape g.E.Endian c.args.bits.now in
    rw c.ONES.ensures (of_kind g.K.Kind.ONES set c.args.last c.requires.within
    c.test_bit_in.result (c.test_bit_in.ensures ∙ contains_within set c.args.last c.requires.within)
    c.args.is_closed)
