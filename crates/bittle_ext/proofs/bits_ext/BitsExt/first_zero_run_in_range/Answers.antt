use Rattle.bittle.specs.Values.{set_in}
use Rattle.bittle_ext.proofs.FoundBits.{unset_in_first_run_within}
use Rattle.bittle_ext.proofs.bits_ext.BitsExt.first_zero_run_in_range.Goals as goal

pub returns-clause-free : goal.returns-clause-free
returns-clause-free g c =
    unset_in_first_run_within (set_in g.Self.Shape g.Self.Order.Endian c.args.self.now) _ _ _ _
    c.run_in_range.ensures.run
