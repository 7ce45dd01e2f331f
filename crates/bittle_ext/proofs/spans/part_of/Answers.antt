use Rattle.std.proofs.Common.{refl}
use Rattle.bittle.specs.Values.{set_in}
use Rattle.bittle_ext.specs.ViewLaws.{none_past_complement}
use Rattle.bittle_ext.proofs.spans.part_of.Goals as goal

pub returns-clause-others : goal.returns-clause-others
returns-clause-others g c = record {
  capacity = refl;
  past = none_past_complement (set_in g.B.Shape g.E.Endian c.args.set.now);
}
