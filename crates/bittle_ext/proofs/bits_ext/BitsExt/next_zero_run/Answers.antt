use Rattle.bittle.specs.Values.{set_in}
use Rattle.bittle_ext.proofs.FoundBits.{unset_in_first_run}
use Rattle.bittle_ext.proofs.bits_ext.BitsExt.next_zero_run.Goals as goal

pub returns-clause-free : goal.returns-clause-free
returns-clause-free g c =
    unset_in_first_run (set_in g.Self.Shape g.Self.Order.Endian c.args.self.now) _ _ _
    c.next_run.ensures
